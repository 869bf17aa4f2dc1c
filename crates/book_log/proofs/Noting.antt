-- The items of a legal log can be noted in one way.
use Rattle.std.proofs.Common.{◌≡◌, ◌∙◌, ℕ, Bool, true, false, [], ◌∷◌, length, Option, refl, sym, subst}
use Rattle.acl_names.specs.declared.auth.AuthId.{AuthId}
use Rattle.book_log.proofs.Chosen.{chosen_by_once}
use Rattle.book_log.proofs.Fronts.{no_longer, same_fronts}
use Rattle.book_log.specs.Items.{Call, Item, Reply}
use Rattle.book_log.specs.Items.Call.{Asks, Knocks}
use Rattle.book_log.specs.Items.Reply.{ToLogin, ToStatement}
use Rattle.book_log.specs.Logs.{IsLegalPast, IsReply, IsReplyWhere, Origin, is_ended, state_at}
use Rattle.book_log.specs.Pasts.{Noted, Past, log_of}

same_choice : (ended : Bool) (origin : Origin) (past : Past) (caller number : ℕ) (one other : Option AuthId) (call : Call) (reply : Reply) →
    IsReplyWhere ended origin past caller number one call reply → IsReplyWhere ended origin past caller number other call reply → one ≡ other
same_choice true origin past caller number one other call reply first second = first.0 ∙ sym second.0
same_choice false origin past caller number one other (Asks acting statement) (ToStatement answer) first second = first.0 ∙ sym second.0
same_choice false origin past caller number one other (Asks acting statement) (ToLogin answer) first second = absurd first
same_choice false origin past caller number one other (Knocks knock) (ToStatement answer) first second = absurd first
same_choice false origin past caller number one other (Knocks knock) (ToLogin answer) first second =
    chosen_by_once origin.rules.own_choice (state_at origin past) knock one other first.0 second.0

same_noted : (origin : Origin) (past : Past) (one other : Noted) → one.item ≡ other.item → IsReply origin past one → IsReply origin past other → one ≡ other
unfolding IsReply
same_noted origin past one other item first second =
    let moved : IsReplyWhere (is_ended origin.end (length past)) origin past one.item.caller one.item.number other.chosen one.item.call one.item.reply =
    subst (λ (it : Item). IsReplyWhere (is_ended origin.end (length past)) origin past it.caller it.number other.chosen it.call it.reply) (sym item) second in
    let chosen : one.chosen ≡ other.chosen =
    same_choice (is_ended origin.end (length past)) origin past one.item.caller one.item.number one.chosen other.chosen one.item.call one.item.reply first moved in
    λ i. record { item = item i; chosen = chosen i }

pub noted_once : (origin : Origin) (one other : Past) → IsLegalPast origin one → IsLegalPast origin other → log_of one ≡ log_of other → one ≡ other
noted_once origin [] [] first second same = refl
noted_once origin [] (noted ∷ other) first second same = absurd (no_longer (log_of other) noted.item [] same)
noted_once origin (noted ∷ one) [] first second same = absurd (no_longer (log_of one) noted.item [] (sym same))
noted_once origin (noted ∷ one) (another ∷ other) first second same =
    let parts = same_fronts (log_of one) (log_of other) noted.item another.item same in
    let rest : one ≡ other = noted_once origin one other first.0 second.0 parts.0 in
    let moved : IsReply origin one another = subst (λ (past : Past). IsReply origin past another) (sym rest) second.1 in
    let head : noted ≡ another = same_noted origin one noted another parts.1 first.1 moved in
    λ i. head i ∷ rest i
