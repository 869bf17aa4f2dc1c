-- Schemas, tables and roles in order: a list of them that ascends, with the same members, is the listing's.
use Rattle.std.proofs.Common.{◌≡◌, ◌∙◌, ap, sym, refl, ℕ, Bool, true, false, ◌&&◌, ◌||◌, List, rules, Ordering, Less, Equal, Greater}
use Rattle.std.proofs.lemmas.Cmp.{on_total, then_total, tied_itself}
use Rattle.std.specs.Cmp.{IsTotalOrder}
use Rattle.std.specs.Cmp.Rules.{comparing}
use Rattle.std.specs.List.{list_any}
use Rattle.std.specs.Ordering.{eq_by_cmp, is_eq, is_lt, ordering_reverse, ordering_then}
use Rattle.acl_names.proofs.SameAuth.{equal_from_same_auth, equal_from_text_eq, same_auth_itself, text_eq_itself}
use Rattle.acl_names.specs.AuthId.{auth_cmp, same_auth}
use Rattle.acl_names.specs.Text.{text_cmp, text_eq}
use Rattle.acl_names.specs.declared.auth.AuthId.{AuthId}
use Rattle.show_grants.specs.Keys.{Pair, auth_less, in_order, pair_less, same_pair, text_less}
use Rattle.shown_laws.proofs.Ascending.{ascends, is_in_order}
use Rattle.shown_laws.proofs.Found.{equal_from_same_pair, same_pair_itself}

text_total : IsTotalOrder text_cmp
text_total = search (comparing, rules)

text_ties : (s t : List ℕ) → text_eq s t ≡ eq_by_cmp text_cmp s t
text_ties = search (comparing, rules)

auth_total : IsTotalOrder auth_cmp
auth_total = search (comparing, rules)

auth_ties : (a b : AuthId) → same_auth a b ≡ eq_by_cmp auth_cmp a b
auth_ties = search (comparing, rules)

less_from : (o : Ordering) → is_lt o ≡ true → o ≡ Less
less_from Less is = refl
less_from Equal is = cc
less_from Greater is = cc

other_way : (o : Ordering) → is_lt o ≡ false → is_eq o ≡ false → is_lt (ordering_reverse o) ≡ true
other_way Less before apart = cc
other_way Equal before apart = cc
other_way Greater before apart = refl

module _ {K : Type 0} (cmp : K → K → Ordering) (total : IsTotalOrder cmp) where
  never_less : (a : K) → is_lt (cmp a a) ≡ false
  never_less a = ap is_lt (tied_itself total a)

  onward : (a b c : K) → is_lt (cmp a b) ≡ true → is_lt (cmp b c) ≡ true → is_lt (cmp a c) ≡ true
  onward a b c first second = ap is_lt (total.trans a b c (less_from (cmp a b) first) (less_from (cmp b c) second))

  either_way : (a b : K) → is_lt (cmp a b) ≡ false → eq_by_cmp cmp a b ≡ false → is_lt (cmp b a) ≡ true
  either_way a b before apart = ap is_lt (total.antisymm b a) ∙ other_way (cmp a b) before apart

-- of schemas and columns
pub texts_are_in_order : (keys ys : List (List ℕ)) → ascends text_less ys ≡ true → ((k : List ℕ) → list_any (text_eq k) ys ≡ list_any (text_eq k) keys)
    → ys ≡ in_order text_eq text_less keys
texts_are_in_order = is_in_order text_eq text_less equal_from_text_eq text_eq_itself (never_less text_cmp text_total) (onward text_cmp text_total)
    (λ s t before apart. either_way text_cmp text_total s t before (sym (text_ties s t) ∙ apart))

-- of roles
pub accounts_are_in_order : (keys ys : List AuthId) → ascends auth_less ys ≡ true → ((k : AuthId) → list_any (same_auth k) ys ≡ list_any (same_auth k) keys)
    → ys ≡ in_order same_auth auth_less keys
accounts_are_in_order = is_in_order same_auth auth_less equal_from_same_auth same_auth_itself (never_less auth_cmp auth_total) (onward auth_cmp auth_total)
    (λ a b before apart. either_way auth_cmp auth_total a b before (sym (auth_ties a b) ∙ apart))

-- of tables and routines
pair_cmp : Pair → Pair → Ordering
pair_cmp x y = ordering_then (text_cmp x.0 y.0) (text_cmp x.1 y.1)

pair_total : IsTotalOrder pair_cmp
unfolding pair_cmp
pair_total = then_total (on_total (λ (x : Pair). x.0) text_total) (on_total (λ (x : Pair). x.1) text_total)

first_then : (o p : Ordering) (e : Bool) → e ≡ is_eq o → (is_lt o || (e && is_lt p)) ≡ is_lt (ordering_then o p)
first_then Less p e is = refl
first_then Equal p e is = ap (λ t. t && is_lt p) is
first_then Greater p e is = ap (λ t. t && is_lt p) is

both_then : (o p : Ordering) (e f : Bool) → e ≡ is_eq o → f ≡ is_eq p → (e && f) ≡ is_eq (ordering_then o p)
both_then Less p e f is also = ap (λ t. t && f) is
both_then Equal p e f is also = ap (λ t. t && f) is ∙ also
both_then Greater p e f is also = ap (λ t. t && f) is

pair_less_is : (x y : Pair) → pair_less x y ≡ is_lt (pair_cmp x y)
unfolding pair_cmp
pair_less_is x y = first_then (text_cmp x.0 y.0) (text_cmp x.1 y.1) (text_eq x.0 y.0) (text_ties x.0 y.0)

pair_ties : (x y : Pair) → same_pair x y ≡ eq_by_cmp pair_cmp x y
unfolding pair_cmp
pair_ties x y = both_then (text_cmp x.0 y.0) (text_cmp x.1 y.1) (text_eq x.0 y.0) (text_eq x.1 y.1) (text_ties x.0 y.0) (text_ties x.1 y.1)

pub pairs_are_in_order : (keys ys : List Pair) → ascends pair_less ys ≡ true → ((k : Pair) → list_any (same_pair k) ys ≡ list_any (same_pair k) keys)
    → ys ≡ in_order same_pair pair_less keys
pairs_are_in_order = is_in_order same_pair pair_less equal_from_same_pair same_pair_itself
    (λ x. pair_less_is x x ∙ never_less pair_cmp pair_total x)
    (λ x y z first second. pair_less_is x z ∙ onward pair_cmp pair_total x y z (sym (pair_less_is x y) ∙ first) (sym (pair_less_is y z) ∙ second))
    (λ x y before apart. pair_less_is y x ∙ either_way pair_cmp pair_total x y (sym (pair_less_is x y) ∙ before) (sym (pair_ties x y) ∙ apart))
