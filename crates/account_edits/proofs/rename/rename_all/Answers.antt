use Rattle.std.proofs.Common.{◌≡◌, ◌∙◌, ◌<◌, ◌↔◌, IsSome, subst, sym, refl, length, arith}
use Rattle.acl_model.specs.State.{State}
use Rattle.row_tables.specs.Tables.{state_of}
use Rattle.account_edits.specs.Renamed.{AreLegal}
use Rattle.account_edits.proofs.Creating.{last_length, last_of, none_left}
use Rattle.account_edits.proofs.Renaming.{all_renamed, next_legal, next_renamed}
use Rattle.account_edits.proofs.rename.rename_all.Goals as goal

pub rename-requires-clause-old : goal.rename-requires-clause-old
rename-requires-clause-old c =
    let split = last_of c.loop-old.pairs.items c.pop.new.self.items (c.in-Some.old, c.in-Some.new) c.pop.result c.in-Some.is c.pop.ensures.items in
    (next_legal c.loop-old.pairs.items c.pop.new.self.items (c.in-Some.old, c.in-Some.new) (state_of c.loop-old.rows) split c.loop-old.invariant.legal).0

pub rename-requires-clause-new : goal.rename-requires-clause-new
rename-requires-clause-new c =
    let split = last_of c.loop-old.pairs.items c.pop.new.self.items (c.in-Some.old, c.in-Some.new) c.pop.result c.in-Some.is c.pop.ensures.items in
    (next_legal c.loop-old.pairs.items c.pop.new.self.items (c.in-Some.old, c.in-Some.new) (state_of c.loop-old.rows) split c.loop-old.invariant.legal).1

pub loop-old-preserved : goal.loop-old-preserved
loop-old-preserved c =
    let split = last_of c.loop-old.pairs.items c.pop.new.self.items (c.in-Some.old, c.in-Some.new) c.pop.result c.in-Some.is c.pop.ensures.items in
    let longer = last_length c.loop-old.pairs.items c.pop.new.self.items (c.in-Some.old, c.in-Some.new) split in
    record {
      state = next_renamed c.loop-old.pairs.items c.pop.new.self.items (c.in-Some.old, c.in-Some.new) (state_of c.loop-old.rows) (state_of c.rename.new.self) split c.rename.ensures.state ∙ c.loop-old.invariant.state;
      legal = subst (λ (st : State). AreLegal c.pop.new.self.items st) (sym c.rename.ensures.state)
          (next_legal c.loop-old.pairs.items c.pop.new.self.items (c.in-Some.old, c.in-Some.new) (state_of c.loop-old.rows) split c.loop-old.invariant.legal).2;
      room = omega (arith, longer, c.loop-old.invariant.room, c.rename.ensures.room.accounts);
    }

pub returns : goal.returns
returns c =
    let none = none_left c.loop-old.pairs.items c.pop.result c.in_default.is (subst (λ n. IsSome c.pop.result ↔ (0 < n)) c.loop-old.pairs.ok.0 c.pop.ensures.variant) in
    all_renamed c.loop-old.pairs.items (state_of c.loop-old.rows) none ∙ c.loop-old.invariant.state
