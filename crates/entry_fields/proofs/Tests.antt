-- What the tests of the rules find.
use Rattle.std.proofs.Common.{◌≡◌, ◌↔◌, ◌&&◌, ◌||◌, not, ◌∙◌, ap, subst, sym, ℕ, zero, suc, ◌<◌, ◌-◌, Bool, true, false, nat_eq, List, [], ◌∷◌, ◌++◌, length, Option, Some, None, inl, inr, refl, arith}
use Rattle.std.specs.Prelude.{IsNone, is_none, is_some}
use Rattle.std.proofs.Math.Dec.{eqb-suc-zero}
use Rattle.acl_stmt.specs.Limits.{is_limit}
use Rattle.priv_sets.specs.Levels.{has_level}
use Rattle.priv_sets.specs.declared.level.Level.TheVariants.{Global, Schema}
use Rattle.std.specs.List.{slice_get}
use Rattle.std.specs.Ordering.{is_lt}
use Rattle.std.proofs.lemmas.Bool.{and_parts, cases_eq, lt-ltb}
use Rattle.acl_names.specs.Text.{text_cmp}
use Rattle.acl_stmt.specs.Entries.{are_limits_in_order}
use Rattle.acl_stmt.specs.Requests.{all_below}
use Rattle.acl_stmt.specs.declared.limit.Limit.{Limit}
use Rattle.priv_sets.specs.StaticSet.{bits_of, holds, is_known, is_missing}
use Rattle.priv_sets.specs.declared.static_set.Static.{Static}
use Rattle.entry_fields.specs.Rules.{is_behind}

at_next : (first : Limit) (rest : List Limit) (n : ℕ) (last : Limit) → slice_get (first ∷ rest) (suc n) ≡ Some last → slice_get rest n ≡ Some last
at_next first rest n last e = e

pub last_behind : (limits : List Limit) (last : Limit) (schema : List ℕ) → slice_get limits (length limits - 1) ≡ Some last
    → is_behind limits schema ≡ is_lt (text_cmp last.schema schema)
last_behind [] last schema e = absurd (cc)
last_behind (limit ∷ []) last schema e =
    let same : limit ≡ last = cc in
    ap (λ (l : Limit). is_lt (text_cmp l.schema schema)) same
last_behind (first ∷ second ∷ rest) last schema e =
    let place : length (first ∷ second ∷ rest) - 1 ≡ suc (length rest) = omega arith in
    let before : length (second ∷ rest) - 1 ≡ length rest = omega arith in
    let at : slice_get (first ∷ second ∷ rest) (suc (length rest)) ≡ Some last = subst (λ n. slice_get (first ∷ second ∷ rest) n ≡ Some last) place e in
    last_behind (second ∷ rest) last schema (subst (λ n. slice_get (second ∷ rest) n ≡ Some last) (sym before) (at_next first (second ∷ rest) (length rest) last at))

-- one limit more
pub in_order_with : (limits : List Limit) (limit : Limit) → are_limits_in_order (limits ++ limit ∷ []) ≡ (are_limits_in_order limits && is_behind limits limit.schema)
in_order_with [] limit = refl
in_order_with (first ∷ []) limit = ordered (is_lt (text_cmp first.schema limit.schema))
  where
    ordered : (b : Bool) → (b && true) ≡ (true && b)
    ordered true = refl
    ordered false = refl
in_order_with (first ∷ second ∷ rest) limit =
    ap (λ b. is_lt (text_cmp first.schema second.schema) && b) (in_order_with (second ∷ rest) limit)
    ∙ grouped (is_lt (text_cmp first.schema second.schema)) (are_limits_in_order (second ∷ rest)) (is_behind (second ∷ rest) limit.schema)
  where
    grouped : (a b c : Bool) → (a && (b && c)) ≡ ((a && b) && c)
    grouped true b c = refl
    grouped false b c = refl

below_at : (limit n : ℕ) (test : ℕ → Bool) → all_below limit test ≡ true → n < limit → test n ≡ true
below_at zero n test all within = absurd (omega arith)
below_at (suc limit) n test all within =
    let parts = and_parts (all_below limit test) (test limit) all in
    elim (cases_eq n limit) [
      | inl same ↦ ap test same ∙ parts.1
      | inr other ↦ below_at limit n test parts.0 (omega arith)
    ]

all_at : (limit : ℕ) (test : ℕ → Bool) → ((n : ℕ) → n < limit → test n ≡ true) → all_below limit test ≡ true
all_at zero test each = refl
all_at (suc limit) test each =
    let before = all_at limit test (λ n lt. each n (omega arith)) in
    let last = each limit (omega arith) in
    grind (arith)

-- no privilege is missing exactly where each of them passes
pub none_missing : {T : Type 0} (first : Option T) (wanted held : Static) (test : ℕ → Bool)
    → (IsNone first ↔ ((q : ℕ) → q < 31 → is_missing wanted held q ≡ false)) → ((q : ℕ) → q < 31 → not (is_missing wanted held q) ≡ test q)
    → is_none first ≡ all_below 31 test
none_missing None wanted held test missing passes =
    sym (all_at 31 test (λ q lt. sym (passes q lt) ∙ ap not (missing.0 refl q lt)))
none_missing {T = T} (Some x) wanted held test missing passes = tested (all_below 31 test) refl
  where
    kept : (b : Bool) → not b ≡ true → b ≡ false
    kept true e = cc
    kept false e = refl

    tested : (b : Bool) → all_below 31 test ≡ b → false ≡ b
    tested false is = refl
    tested true is = absurd (none (missing.1 (λ q lt. kept (is_missing wanted held q) (passes q lt ∙ below_at 31 q test is lt))))
      where
        none : IsNone (Some x) → ⊥
        none e = cc

pub present : (wanted held : Bool) → not (wanted && not held) ≡ (not wanted || held)
present true true = refl
present true false = refl
present false held = refl

pub with_no_level : (option level plain all : Bool) → level ≡ true → all ≡ true → ((option && level) || plain) ≡ ((all && option) || plain)
with_no_level option true plain true e f = ordered option
  where
    ordered : (b : Bool) → ((b && true) || plain) ≡ ((true && b) || plain)
    ordered true = refl
    ordered false = refl
with_no_level option false plain all e f = absurd (cc)
with_no_level option true plain false e f = absurd (cc)

pub below_all_levels : (q : ℕ) → q < 31 → has_level Global q ≡ true
unfolding has_level
below_all_levels q lt = lt-ltb q 31 lt

-- what `is_none` answers
pub none_is : {T : Type 0} (first : Option T) (b t : Bool) → is_some first ≡ not b → is_none first ≡ t → b ≡ t
none_is None true t e f = f
none_is None false t e f = absurd (cc)
none_is (Some x) true t e f = absurd (cc)
none_is (Some x) false t e f = f

zero_is : (n : ℕ) → (n ≡ 0 → ⊥) → nat_eq n 0 ≡ false
zero_is zero other = absurd (other refl)
zero_is (suc n) other = eqb-suc-zero n

third : (known empty levels : Bool) → known ≡ true → empty ≡ false → levels ≡ (known && not empty && levels)
third true false levels e f = refl
third true true levels e f = absurd (cc)
third false empty levels e f = absurd (cc)

second : (known empty levels : Bool) → empty ≡ true → false ≡ (known && not empty && levels)
second true true levels e = refl
second false true levels e = refl
second known false levels e = absurd (cc)

pub limit_is : (privileges : Static) → is_known privileges ≡ true → (bits_of privileges ≡ 0 → ⊥)
    → all_below 31 (λ number. not (holds privileges number) || has_level Schema number) ≡ is_limit privileges
unfolding is_limit
limit_is privileges known some = third (is_known privileges) (nat_eq (bits_of privileges) 0) _ known (zero_is (bits_of privileges) some)

pub no_limit : (privileges : Static) → bits_of privileges ≡ 0 → false ≡ is_limit privileges
unfolding is_limit
no_limit privileges none = second (is_known privileges) (nat_eq (bits_of privileges) 0) _ (ap (λ n. nat_eq n 0) none)
