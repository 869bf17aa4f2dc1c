-- The holdings of one kind whose privileges are the bits of a set, up to a number.
use Rattle.std.proofs.Common.{◌≡◌, ◌∙◌, ◌<◌, ◌≤◌, ◌+◌, ◌^◌, refl, sym, ap, ℕ, Bool, true, false, ◌==◌, ◌&&◌, ◌||◌, nat_lt, List, [], ◌∷◌, ◌++◌, inl, inr, arith}
use Rattle.std.specs.List.{list_any}
use Rattle.std.proofs.lemmas.Bool.{cases_eq, cases_lt, eq-eqb, le-ltb, lt-ltb, ne_eqb}
use Rattle.std.proofs.Math.Bool.{and-false, and-true, or-false}
use Rattle.account_holdings.proofs.BitSets.{no_bit}
use Rattle.account_holdings.specs.Bits.{has_bit}
use Rattle.account_holdings.specs.Holdings.{same_holding}
use Rattle.account_holdings.specs.declared.holding.Holding.{Holding}
use Rattle.account_holdings.specs.declared.holding.Holding.TheVariants.{OnAll, OnSchema, Restricted, OnObject}
use Rattle.account_holdings.specs.declared.globals.GlobalKind.{GlobalKind}
use Rattle.object_bits.specs.declared.object.Object.{Object}
use Rattle.holding_lists.specs.Additions.{Adds, is_on_all, is_on_object, is_on_schema, is_restricted, privilege_of, with_bit}
use Rattle.holding_lists.proofs.Additions.{adds_both, adds_none, adds_one, adds_same}

abbrev pub with_bit_below : (Holding → Bool) → ℕ → ℕ → Holding → Bool
with_bit_below rest set n h = rest h && (has_bit set (privilege_of h) && nat_lt (privilege_of h) n)

pub none_below_0 : (rest : Holding → Bool) (set : ℕ) (list : List Holding) → Adds list list (with_bit_below rest set 0)
none_below_0 rest set list =
    adds_none list (with_bit_below rest set 0) (λ h.
    ap (λ b. rest h && (has_bit set (privilege_of h) && b)) (le-ltb (privilege_of h) 0 (omega arith))
    ∙ ap (λ b. rest h && b) (and-false (has_bit set (privilege_of h))) ∙ and-false (rest h))

-- a number is below the next one where it is below or this one
next_below : (p n : ℕ) → nat_lt p (n + 1) ≡ (nat_lt p n || (p == n))
next_below p n =
    elim (cases_lt p n) [
      | inl below ↦ lt-ltb p (n + 1) (omega arith) ∙ sym (ap (λ b. b || (p == n)) (lt-ltb p n below))
      | inr above ↦ elim (cases_eq p n) [
        | inl same ↦ lt-ltb p (n + 1) (omega arith) ∙ sym (ap (λ b. b || (p == n)) (le-ltb p n above) ∙ eq-eqb p n same)
        | inr other ↦ le-ltb p (n + 1) (omega arith) ∙ sym (ap (λ b. b || (p == n)) (le-ltb p n above) ∙ ne_eqb p n other)
      ]
    ]

spread : (r h a b : Bool) → ((r && (h && a)) || (r && (h && b))) ≡ (r && (h && (a || b)))
spread false h a b = refl
spread true false a b = refl
spread true true a b = refl

-- the bit of one number, which is set or not
one_bit : (rest : Holding → Bool) (set n : ℕ) (t : Bool) → has_bit set n ≡ t → (h : Holding) → (rest h && (has_bit set (privilege_of h) && (privilege_of h == n))) ≡ (t && (rest h && (privilege_of h == n)))
one_bit rest set n t is h =
    elim (cases_eq (privilege_of h) n) [
      | inl same ↦ ap (λ b. rest h && (b && (privilege_of h == n))) (ap (has_bit set) same ∙ is) ∙ here t (rest h) (privilege_of h == n)
      | inr other ↦
          ap (λ b. rest h && (has_bit set (privilege_of h) && b)) (ne_eqb (privilege_of h) n other)
          ∙ ap (λ b. rest h && b) (and-false (has_bit set (privilege_of h))) ∙ and-false (rest h)
          ∙ sym (ap (λ b. t && (rest h && b)) (ne_eqb (privilege_of h) n other) ∙ ap (λ b. t && b) (and-false (rest h)) ∙ and-false t)
    ]
  where
    here : (b r e : Bool) → (r && (b && e)) ≡ (b && (r && e))
    here true r e = refl
    here false r e = and-false r

step : (rest : Holding → Bool) (set n : ℕ) (t : Bool) → has_bit set n ≡ t → (h : Holding) → (with_bit_below rest set n h || (t && (rest h && (privilege_of h == n)))) ≡ with_bit_below rest set (n + 1) h
step rest set n t is h =
    ap (λ b. with_bit_below rest set n h || b) (sym (one_bit rest set n t is h))
    ∙ spread (rest h) (has_bit set (privilege_of h)) (nat_lt (privilege_of h) n) (privilege_of h == n)
    ∙ ap (λ b. rest h && (has_bit set (privilege_of h) && b)) (sym (next_below (privilege_of h) n))

-- a privilege whose bit is set comes to the list
pub bit_pushed : (rest : Holding → Bool) (set n : ℕ) (one made : Holding) (old list new : List Holding)
    → ((h : Holding) → same_holding h one ≡ (rest h && (privilege_of h == n))) → made ≡ one → new ≡ list ++ made ∷ [] → has_bit set n ≡ true
    → Adds old list (with_bit_below rest set n) → Adds old new (with_bit_below rest set (n + 1))
bit_pushed rest set n one made old list new is_one equal is_new is before =
    adds_same old new (λ h. with_bit_below rest set n h || same_holding h one) (with_bit_below rest set (n + 1))
    (λ h. ap (λ b. with_bit_below rest set n h || b) (is_one h) ∙ step rest set n true is h)
    (adds_both old list new (with_bit_below rest set n) (λ h. same_holding h one) before (adds_one list new one made equal is_new))

-- where it is not set nothing comes
pub bit_skipped : (rest : Holding → Bool) (set n : ℕ) (old list new : List Holding) → new ≡ list → has_bit set n ≡ false
    → Adds old list (with_bit_below rest set n) → Adds old new (with_bit_below rest set (n + 1))
bit_skipped rest set n old list new is_new is before =
    adds_same old new (with_bit_below rest set n) (with_bit_below rest set (n + 1))
    (λ h. sym (or-false (with_bit_below rest set n h)) ∙ step rest set n false is h)
    (λ h. ap (list_any (same_holding h)) is_new ∙ before h)

-- from 32 on stand all bits of a set
pub all_bits : (rest : Holding → Bool) (set : ℕ) (n : ℕ) (old list : List Holding) → set < 2 ^ 32 → 32 ≤ n
    → Adds old list (with_bit_below rest set n) → Adds old list (with_bit rest set)
all_bits rest set n old list fits end before =
    adds_same old list (with_bit_below rest set n) (with_bit rest set) (λ h. ap (λ b. rest h && b) (whole (privilege_of h))) before
  where
    whole : (p : ℕ) → (has_bit set p && nat_lt p n) ≡ has_bit set p
    whole p =
        elim (cases_lt p n) [
          | inl below ↦ ap (λ b. has_bit set p && b) (lt-ltb p n below) ∙ and-true (has_bit set p)
          | inr above ↦ ap (λ b. b && nat_lt p n) (no_bit set p fits (omega arith)) ∙ sym (no_bit set p fits (omega arith))
        ]

-- ---- the same holding, by its kind and its bit

pub is_global : (kind : GlobalKind) (account n : ℕ) (h : Holding) → same_holding h (OnAll kind account n) ≡ (is_on_all kind account h && (privilege_of h == n))
is_global kind account n (OnAll other m p) = refl
is_global kind account n _ = refl

pub is_grant : (account : ℕ) (schema : List ℕ) (n : ℕ) (h : Holding) → same_holding h (OnSchema account schema n) ≡ (is_on_schema account schema h && (privilege_of h == n))
is_grant account schema n (OnSchema m s p) = refl
is_grant account schema n _ = refl

pub is_limit : (account : ℕ) (schema : List ℕ) (n : ℕ) (h : Holding) → same_holding h (Restricted account schema n) ≡ (is_restricted account schema h && (privilege_of h == n))
is_limit account schema n (Restricted m s p) = refl
is_limit account schema n _ = refl

pub is_object : (account : ℕ) (object : Object) (n : ℕ) (h : Holding) → same_holding h (OnObject account object n) ≡ (is_on_object account object h && (privilege_of h == n))
is_object account object n (OnObject m o p) = refl
is_object account object n _ = refl
