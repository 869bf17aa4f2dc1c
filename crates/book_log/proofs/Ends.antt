-- A log that is legal while it is open is legal where it ends then.
use Rattle.std.proofs.Common.{◌≡◌, ℕ, ◌<◌, ◌≤◌, Bool, true, false, [], ◌∷◌, length, Some, None, refl, sym, subst, arith}
use Rattle.std.proofs.lemmas.Bool.{leb-true}
use Rattle.std.specs.Prelude.{nat_le}
use Rattle.book_log.specs.Logs.{IsLegalPast, IsReply, IsReplyWhere, Origin, with_end}
use Rattle.book_log.specs.Pasts.{Past}

not_yet : (end place : ℕ) → place < end → nat_le end place ≡ false
not_yet end place order = by (nat_le end place) refl
  where
    by : (ended : Bool) → nat_le end place ≡ ended → ended ≡ false
    by false is = refl
    by true is = let reached : end ≤ place = leb-true end place is in absurd (omega arith)

pub ends_later : (origin : Origin) (end : ℕ) (past : Past) → length past ≤ end → IsLegalPast (with_end None origin) past → IsLegalPast (with_end (Some end) origin) past
unfolding IsReply
ends_later origin end [] order legal = tt
ends_later origin end (noted ∷ past) order legal = (
  ends_later origin end past (omega arith) legal.0,
  subst (λ ended. IsReplyWhere ended (with_end (Some end) origin) past noted.item.caller noted.item.number noted.chosen noted.item.call noted.item.reply)
      (sym (not_yet end (length past) (omega arith))) legal.1,
)
