use Rattle.std.proofs.Common.{rules, refl, inr}
use Rattle.book_turn.specs.Views.{counting}
use Rattle.book_turn.proofs.Turns.{counts_at, gives_at}
use Rattle.book_turn.proofs.Calls.{counted_book, given}
use Rattle.book_turn.proofs.turn.Turn.give_more.Goals as goal

pub fetch_add-requires : goal.fetch_add-requires
fetch_add-requires g c = let b = g.B.Logged in let t = c.requires.log in
    (search rules, search rules, counts_at b.log b.origin b.caller_of _ _ _ c.args.seat.now.me.0 c.args.book t.0 t.1 _ c.put_in.ensures.book c.requires.empty.1 c.requires.origin t.2 c.requires.bound t.3)

pub store-requires : goal.store-requires
store-requires g c = let b = g.B.Logged in let v = c.args.seat.now.me.0 in (
  search rules,
  search rules,
  gives_at b.log b.origin b.caller_of _ _ _ (counting b.caller_of (b.log c.args.book) v) c.args.book c.args.self.now.sized.1
      (counted_book b.log b.caller_of _ _ v c.args.book c.put_in.ensures.book c.fetch_add.ensures.2) c.requires.empty.1 refl (inr c.requires.origin),
)

pub returns-clause-given : goal.returns-clause-given
returns-clause-given g c = let b = g.B.Logged in let v = c.args.seat.now.me.0 in
    given b.origin _ _ (counting b.caller_of (b.log c.args.book) v) c.args.book (counted_book b.log b.caller_of _ _ v c.args.book c.put_in.ensures.book c.fetch_add.ensures.2) c.store.ensures.2
