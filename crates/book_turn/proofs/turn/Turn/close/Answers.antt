use Rattle.book_turn.proofs.Gathers.{left_book, closes}
use Rattle.book_turn.proofs.turn.Turn.close.Goals as goal

pub unreachable-requires : goal.unreachable-requires
unreachable-requires g c = let b = g.B.Logged in
    let t = left_book b.log b.origin b.caller_of _ _ _ _ _ c.gather-all.ensures.gathered c.requires.all c.close_with-closed.ensures.values.2 c.take-slot.result c.take-slot.ensures.value in c.in_default.not-Some t.0 t.1

pub returns-clause-calls : goal.returns-clause-calls
returns-clause-calls g c = let b = g.B.Logged in
    (closes b.log b.origin b.caller_of _ _ _ _ _ c.gather-all.ensures.gathered c.requires.all c.close_with-closed.ensures.values.2 c.take-slot.result c.in-Some.book c.take-slot.ensures.value c.in-Some.is).calls

pub returns-clause-others : goal.returns-clause-others
returns-clause-others g c = let b = g.B.Logged in
    (closes b.log b.origin b.caller_of _ _ _ _ _ c.gather-all.ensures.gathered c.requires.all c.close_with-closed.ensures.values.2 c.take-slot.result c.in-Some.book c.take-slot.ensures.value c.in-Some.is).others

pub returns-clause-seen : goal.returns-clause-seen
returns-clause-seen g c = let b = g.B.Logged in
    (closes b.log b.origin b.caller_of _ _ _ _ _ c.gather-all.ensures.gathered c.requires.all c.close_with-closed.ensures.values.2 c.take-slot.result c.in-Some.book c.take-slot.ensures.value c.in-Some.is).seen

pub returns-clause-known : goal.returns-clause-known
returns-clause-known g c = let b = g.B.Logged in
    (closes b.log b.origin b.caller_of _ _ _ _ _ c.gather-all.ensures.gathered c.requires.all c.close_with-closed.ensures.values.2 c.take-slot.result c.in-Some.book c.take-slot.ensures.value c.in-Some.is).known

pub returns-clause-origin : goal.returns-clause-origin
returns-clause-origin g c = let b = g.B.Logged in
    (closes b.log b.origin b.caller_of _ _ _ _ _ c.gather-all.ensures.gathered c.requires.all c.close_with-closed.ensures.values.2 c.take-slot.result c.in-Some.book c.take-slot.ensures.value c.in-Some.is).origin
