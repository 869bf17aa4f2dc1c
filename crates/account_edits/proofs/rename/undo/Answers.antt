use Rattle.std.proofs.Common.{◌≡◌, ◌∙◌, ◌<◌, ◌↔◌, IsSome, ap, subst, sym, length, arith}
use Rattle.acl_names.specs.declared.auth.AuthId.{AuthId}
use Rattle.row_tables.specs.Changes.{renamed}
use Rattle.row_tables.specs.Tables.{state_of}
use Rattle.account_edits.proofs.Creating.{last_length, last_of, none_left}
use Rattle.account_edits.proofs.Renaming.{all_undone, left_names, next_fresh, next_stands, next_undone}
use Rattle.account_edits.proofs.rename.undo.Goals as goal

pub rename-requires-clause-old : goal.rename-requires-clause-old
rename-requires-clause-old c =
    let split = last_of c.loop-name.back.items c.pop.new.self.items c.in-Some.name c.pop.result c.in-Some.is c.pop.ensures.items in
    let at : c.len-i.result ≡ length c.pop.new.self.items = omega arith in
    let under : c.len-i.result < c.args.done = omega arith in
    rw (← c.index-pairs-i.is)
    (next_stands c.args.pairs.now c.loop-name.back.items c.pop.new.self.items c.in-Some.name split c.loop-name.invariant.names c.requires.from.before (state_of c.loop-name.rows) c.args.done c.len-i.result
    c.index-pairs-i.result at under c.loop-name.invariant.within c.index-pairs-i.is (c.loop-name.invariant.state c.requires.from.before c.requires.from.made c.requires.from.way) c.requires.from.way)

pub rename-requires-clause-new : goal.rename-requires-clause-new
rename-requires-clause-new c =
    let split = last_of c.loop-name.back.items c.pop.new.self.items c.in-Some.name c.pop.result c.in-Some.is c.pop.ensures.items in
    let at : c.len-i.result ≡ length c.pop.new.self.items = omega arith in
    let under : c.len-i.result < c.args.done = omega arith in
    next_fresh c.args.pairs.now c.loop-name.back.items c.pop.new.self.items c.in-Some.name split c.loop-name.invariant.names c.requires.from.before (state_of c.loop-name.rows) c.args.done c.len-i.result
    c.index-pairs-i.result at under c.loop-name.invariant.within c.index-pairs-i.is (c.loop-name.invariant.state c.requires.from.before c.requires.from.made c.requires.from.way) c.requires.from.way

pub loop-name-preserved-then-i-done : goal.loop-name-preserved-then-i-done
loop-name-preserved-then-i-done c =
    let split = last_of c.loop-name.back.items c.pop.new.self.items c.in-Some.name c.pop.result c.in-Some.is c.pop.ensures.items in
    let longer = last_length c.loop-name.back.items c.pop.new.self.items c.in-Some.name split in
    let at : c.len-i.result ≡ length c.pop.new.self.items = omega arith in
    let under : c.len-i.result < c.args.done = omega arith in
    record {
      state = λ before made way.
          next_undone c.args.pairs.now c.loop-name.back.items c.pop.new.self.items c.in-Some.name split c.loop-name.invariant.names before (state_of c.loop-name.rows) c.args.done c.len-i.result
          c.index-pairs-i.result at under c.loop-name.invariant.within c.index-pairs-i.is (c.loop-name.invariant.state before made way) way (state_of c.rename.new.self)
          (c.rename.ensures.state ∙ ap (λ (p : AuthId × AuthId). renamed p.1 c.in-Some.name (state_of c.loop-name.rows)) (sym c.index-pairs-i.is));
      names = left_names c.args.pairs.now c.loop-name.back.items c.pop.new.self.items c.in-Some.name split c.loop-name.invariant.names;
      within = omega (arith, longer, c.loop-name.invariant.within);
      room = omega (arith, longer, c.loop-name.invariant.room, c.rename.ensures.room.accounts);
    }

pub returns : goal.returns
returns c before made way =
    let none = none_left c.loop-name.back.items c.pop.result c.in_default.is (subst (λ n. IsSome c.pop.result ↔ (0 < n)) c.loop-name.back.ok.0 c.pop.ensures.variant) in
    all_undone c.args.pairs.now c.args.done c.loop-name.back.items (state_of c.loop-name.rows) before none (c.loop-name.invariant.state before made way)
