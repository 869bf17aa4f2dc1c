use Rattle.std.proofs.Common.{◌≡◌, ◌∙◌, ◌<◌, ◌↔◌, IsSome, ap, subst, sym, refl, true, false, length, arith}
use Rattle.acl_model.specs.State.{State}
use Rattle.row_tables.specs.Rooms.{room_of}
use Rattle.row_tables.specs.Tables.{state_of}
use Rattle.account_edits.specs.Created.{IsCrowded, account_rows, with_accounts}
use Rattle.account_edits.proofs.Creating.{all_known_come, crowded, last_known, last_length, last_of, left_known, match_false, match_true, more_come, next_known, none_come, none_left}
use Rattle.account_edits.proofs.create.add_accounts.Goals as goal

pub loop-account-init : goal.loop-account-init
loop-account-init c = record {
  state = refl;
  partly = none_come (account_rows c.args.accounts.items) (state_of c.args.rows.now);
  listed = λ row there. there;
  room = c.requires;
}

pub returns-then-not-has_place-clause-all : goal.returns-then-not-has_place-clause-all
returns-then-not-has_place-clause-all c =
    let fails : c.has_place.result ≡ false = grind arith in
    let split = last_of c.loop-account.accounts.items c.pop.new.self.items (c.in-Some.account, c.in-Some.value) c.pop.result c.in-Some.is c.pop.ensures.items in
    let full = match_false _ _ c.has_place.result fails c.has_place.ensures in
    subst (λ (st : State). IsCrowded st) (ap (λ ks. with_accounts ks (state_of c.loop-account.rows)) (sym split) ∙ c.loop-account.invariant.state)
    (crowded (state_of c.loop-account.rows) c.pop.new.self.items (c.in-Some.account, c.in-Some.value) full.0 full.1)

pub loop-account-preserved : goal.loop-account-preserved
loop-account-preserved c =
    let split = last_of c.loop-account.accounts.items c.pop.new.self.items (c.in-Some.account, c.in-Some.value) c.pop.result c.in-Some.is c.pop.ensures.items in
    let longer = last_length c.loop-account.accounts.items c.pop.new.self.items (c.in-Some.account, c.in-Some.value) split in
    record {
      state = next_known c.loop-account.accounts.items c.pop.new.self.items (c.in-Some.account, c.in-Some.value) (state_of c.loop-account.rows) (state_of c.put_account.new.self) split c.put_account.ensures.state
          ∙ c.loop-account.invariant.state;
      partly = more_come (account_rows c.args.accounts.items) (state_of c.args.rows.now) (state_of c.loop-account.rows) (state_of c.put_account.new.self) (c.in-Some.account, c.in-Some.value)
          (last_known c.pop.new.self.items (c.in-Some.account, c.in-Some.value) c.loop-account.accounts.items (account_rows c.args.accounts.items) split c.loop-account.invariant.listed)
          c.put_account.ensures.state c.loop-account.invariant.partly;
      listed = left_known c.pop.new.self.items (c.in-Some.account, c.in-Some.value) c.loop-account.accounts.items (account_rows c.args.accounts.items) split c.loop-account.invariant.listed;
      room = omega (arith, longer, c.loop-account.invariant.room, c.put_account.ensures.room.accounts);
    }

pub returns-clause-all : goal.returns-clause-all
returns-clause-all c =
    let none = none_left c.loop-account.accounts.items c.pop.result c.in_default.is (subst (λ n. IsSome c.pop.result ↔ (0 < n)) c.loop-account.accounts.ok.0 c.pop.ensures.variant) in
    all_known_come c.loop-account.accounts.items (state_of c.loop-account.rows) none ∙ c.loop-account.invariant.state
