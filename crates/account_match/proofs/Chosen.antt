-- The first account in the order that admits the client is the chosen one.
use Rattle.std.proofs.Common.{◌≡◌, ◌<◌, ◌+◌, ◌-◌, ℕ, zero, suc, List, length, get_or, Some, inl, inr, sym, subst, arith}
use Rattle.std.proofs.lemmas.Bool.{cases_order}
use Rattle.std.proofs.lemmas.List.{get_or_default, get_or_read}
use Rattle.std.specs.Cmp.{tied_itself}
use Rattle.account_match.proofs.Totals.{account_order_total}
use Rattle.account_match.specs.Choice.{Admits, IsChoice, IsStrictlyOrdered, Precedes}
use Rattle.account_match.specs.declared.client.Client.{Client}
use Rattle.account_match.specs.declared.listed.Listed.{Listed}

no_loop : (a b : Listed) → Precedes a b → ¬ (Precedes b a)
no_loop a b there back = let turned = account_order_total.antisymm a.auth b.auth in cc

not_itself : (a : Listed) → ¬ (Precedes a a)
not_itself a there = let tied = tied_itself account_order_total a.auth in cc

pub chosen_at : (accounts : List Listed) (user : List ℕ) (client : Client) (place : ℕ) → IsStrictlyOrdered accounts → place < length accounts →
    ((d : Listed) → Admits user client (get_or accounts place d)) →
    ((k : ℕ) (d : Listed) → k < place → ¬ (Admits user client (get_or accounts k d))) → IsChoice accounts user client (Some place)
chosen_at accounts user client place ordered short here none = (
  short,
  λ d. record {
    admits = here d;
    first = λ k e k_short admits before.
        let same : get_or accounts k e ≡ get_or accounts k d = get_or_default accounts k e d k_short in
        let earlier = subst (λ (x : Listed). Precedes x (get_or accounts place d)) same before in
        elim (cases_order k place) [
          | inl here_too ↦ not_itself (get_or accounts place d) (subst (λ (j : ℕ). Precedes (get_or accounts j d) (get_or accounts place d)) here_too earlier)
          | inr (inl lower) ↦ none k e lower admits
          | inr (inr higher) ↦ no_loop (get_or accounts k d) (get_or accounts place d) earlier (ordered place k d higher k_short)
        ];
  },
)

-- accounts that each come before the next come before all that stand behind them
reaches : (accounts : List Listed) → ((k : ℕ) (d : Listed) → k + 1 < length accounts → Precedes (get_or accounts k d) (get_or accounts (k + 1) d)) →
    (i n : ℕ) (d : Listed) → i + n + 1 < length accounts → Precedes (get_or accounts i d) (get_or accounts (i + n + 1) d)
reaches accounts next i zero d short =
    let same : i + 1 ≡ i + 0 + 1 = omega arith in
    subst (λ (j : ℕ). Precedes (get_or accounts i d) (get_or accounts j d)) same (next i d (omega arith))
reaches accounts next i (suc n) d short =
    let before : i + n + 1 < length accounts = omega arith in
    let at : i + n + 1 + 1 < length accounts = omega arith in
    let same : i + n + 1 + 1 ≡ i + suc n + 1 = omega arith in
    subst (λ (j : ℕ). Precedes (get_or accounts i d) (get_or accounts j d)) same
    (account_order_total.trans (get_or accounts i d).auth (get_or accounts (i + n + 1) d).auth (get_or accounts (i + n + 1 + 1) d).auth
    (reaches accounts next i n d before) (next (i + n + 1) d at))

pub ordered_by_neighbours : (accounts : List Listed) →
    ((k : ℕ) (d : Listed) → k + 1 < length accounts → Precedes (get_or accounts k d) (get_or accounts (k + 1) d)) → IsStrictlyOrdered accounts
ordered_by_neighbours accounts next i j d before short =
    let same : i + (j - i - 1) + 1 ≡ j = omega arith in
    subst (λ (k : ℕ). Precedes (get_or accounts i d) (get_or accounts k d)) same
    (reaches accounts next i (j - i - 1) d (omega arith))

-- two neighbours, read by their places
pub neighbours : (accounts : List Listed) (next k : ℕ) (a b d : Listed) → next < length accounts → k + 1 ≡ next →
    a ≡ get_or accounts (next - 1) a → b ≡ get_or accounts next b → Precedes a b → Precedes (get_or accounts k d) (get_or accounts (k + 1) d)
neighbours accounts next k a b d short k_next a_is b_is before =
    let k_is : next - 1 ≡ k = omega arith in
    let left : a ≡ get_or accounts (next - 1) d = get_or_read accounts (next - 1) a (omega arith) a_is d in
    let right : b ≡ get_or accounts next d = get_or_read accounts next b short b_is d in
    subst (λ (n : ℕ). Precedes (get_or accounts k d) (get_or accounts n d)) (sym k_next)
    (subst (λ (n : ℕ). Precedes (get_or accounts n d) (get_or accounts next d)) k_is
    (subst (λ (x : Listed). Precedes x (get_or accounts next d)) left (subst (λ (x : Listed). Precedes a x) right before)))

-- a pair of neighbours that is out of order
pub not_ordered : (accounts : List Listed) (next : ℕ) (a b : Listed) → 0 < next → next < length accounts →
    a ≡ get_or accounts (next - 1) a → b ≡ get_or accounts next b → ¬ (Precedes a b) → ¬ (IsStrictlyOrdered accounts)
not_ordered accounts next a b some short a_is b_is not ordered =
    let right : b ≡ get_or accounts next a = get_or_read accounts next b short b_is a in
    not (subst (λ (x : Listed). Precedes a x) (sym right)
    (subst (λ (x : Listed). Precedes x (get_or accounts next a)) (sym a_is) (ordered (next - 1) next a (omega arith) short)))
