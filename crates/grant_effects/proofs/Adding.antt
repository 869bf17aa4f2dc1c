-- Lists that grow by rows that pass a test.
use Rattle.std.proofs.Common.{◌≡◌, ◌∙◌, ap, sym, refl, ℕ, ◌+◌, ◌<◌, ◌≤◌, Bool, true, false, ◌&&◌, ◌||◌, List, [], ◌∷◌, ◌++◌, cond, filter, length, get_or, take}
use Rattle.std.proofs.Math.Bool.{and-false, or-false}
use Rattle.std.proofs.lemmas.List.{take_all}
use Rattle.std.proofs.lemmas.List.Folds.{list_any-append, list_any_more}
use Rattle.std.specs.List.{list_any}
use Rattle.acl_model.proofs.SameRows.{equal_from_same_row}
use Rattle.acl_model.specs.Rows.{same_row}
use Rattle.acl_model.specs.declared.row.Row.{Row}
use Rattle.grant_effects.proofs.Below.{any_below, no_number, one_more}
use Rattle.grant_effects.proofs.Bools.{first_last, or_or}
use Rattle.grant_effects.specs.Lists.{Adds, HasJust}

pub pushed : (old new : List Row) (x r : Row) → x ≡ r → new ≡ old ++ x ∷ [] → Adds (λ row. same_row row r) old new
pushed old new x r same is = record {
  is = λ row. ap (list_any (same_row row)) is ∙ list_any-append (same_row row) old (x ∷ []) ∙ ap (λ t. list_any (same_row row) old || t) (or-false (same_row row x) ∙ ap (same_row row) same);
}

pub nothing_added : (rows : List Row) (test : Row → Bool) → ((row : Row) → test row ≡ false) → Adds test rows rows
nothing_added rows test none = record { is = λ row. sym (ap (λ t. list_any (same_row row) rows || t) (none row) ∙ or-false (list_any (same_row row) rows)) }

pub same_added : {old new : List Row} {first second : Row → Bool} → Adds first old new → ((row : Row) → first row ≡ second row) → Adds second old new
same_added {old} added same = record { is = λ row. added.is row ∙ ap (λ t. list_any (same_row row) old || t) (same row) }

pub then_adds : {old mid new : List Row} {first second : Row → Bool} → Adds first old mid → Adds second mid new → Adds (λ row. first row || second row) old new
then_adds {old} {mid} {new} {first} {second} added more = record {
  is = λ row. more.is row ∙ ap (λ t. t || second row) (added.is row) ∙ or_or (list_any (same_row row) old) (first row) (second row);
}

-- a row that comes where it is given
pub pushed_if : (old new : List Row) (x r : Row) (given : Bool) → given ≡ true → x ≡ r → new ≡ old ++ x ∷ [] → Adds (λ row. given && same_row row r) old new
pushed_if old new x r given is_given same is = same_added (pushed old new x r same is) (λ row. ap (λ t. t && same_row row r) (sym is_given))

pub not_pushed : (rows : List Row) (test : Row → Bool) (given : Bool) → given ≡ false → Adds (λ row. given && test row) rows rows
not_pushed rows test given none = nothing_added rows (λ row. given && test row) (λ row. ap (λ t. t && test row) none)

pub appended : (old new more : List Row) (test : Row → Bool) → HasJust test more → new ≡ old ++ more → Adds test old new
appended old new more test has is = record {
  is = λ row. ap (list_any (same_row row)) is ∙ list_any-append (same_row row) old more ∙ ap (λ t. list_any (same_row row) old || t) (has.is row);
}

-- number by number
pub none_numbered : (rows : List Row) (test : Row → ℕ → Bool) → Adds (λ row. any_below 0 (test row)) rows rows
none_numbered rows test = nothing_added rows (λ row. any_below 0 (test row)) (λ row. no_number (test row))

pub one_numbered : {old mid new : List Row} (test : Row → ℕ → Bool) (n : ℕ)
    → Adds (λ row. any_below n (test row)) old mid → Adds (λ row. test row n) mid new → Adds (λ row. any_below (n + 1) (test row)) old new
one_numbered test n added more = same_added (then_adds added more) (λ row. sym (one_more n (test row)))

-- item by item
pub none_listed : {X : Type 0} (rows : List Row) (test : Row → X → Bool) → Adds (λ row. list_any (test row) []) rows rows
none_listed rows test = nothing_added rows (λ row. false) (λ row. refl)

pub none_from : {X : Type 0} (rows : List Row) (test : Row → X → Bool) → rows ≡ [] → Adds (λ row. list_any (test row) []) [] rows
none_from rows test empty = record { is = λ row. ap (list_any (same_row row)) empty }

pub one_listed : {X : Type 0} {old mid new : List Row} (test : Row → X → Bool) (xs : List X) (i : ℕ) (x : X) → i < length xs → x ≡ get_or xs i x
    → Adds (λ row. list_any (test row) (take i xs)) old mid → Adds (λ row. test row x) mid new → Adds (λ row. list_any (test row) (take (i + 1) xs)) old new
one_listed test xs i x within is added more =
    same_added (then_adds added more)
    (λ row. ap (λ y. list_any (test row) (take i xs) || test row y) is ∙ sym (list_any_more (test row) xs i x within))

pub all_listed : {X : Type 0} {old new : List Row} (test : Row → X → Bool) (xs ys : List X) (i : ℕ) → length xs ≤ i → xs ≡ ys
    → Adds (λ row. list_any (test row) (take i xs)) old new → Adds (λ row. list_any (test row) ys) old new
all_listed test xs ys i all same added = same_added added (λ row. ap (list_any (test row)) (take_all i xs all ∙ same))

pub any_and : {X : Type 0} (test : X → Bool) (b : Bool) (xs : List X) → list_any (λ x. test x && b) xs ≡ (list_any test xs && b)
any_and test b [] = refl
any_and test b (x ∷ xs) = ap (λ t. (test x && b) || t) (any_and test b xs) ∙ by (test x) (list_any test xs) b
  where
    by : (s t b : Bool) → ((s && b) || (t && b)) ≡ ((s || t) && b)
    by true true true = refl
    by true true false = refl
    by true false true = refl
    by true false false = refl
    by false t b = refl

pub no_items : {X : Type 0} (xs : List X) → list_any (λ x. false) xs ≡ false
no_items [] = refl
no_items (x ∷ xs) = no_items xs

pub and_any : {X : Type 0} (b : Bool) (test : X → Bool) (xs : List X) → list_any (λ x. b && test x) xs ≡ (b && list_any test xs)
and_any true test xs = refl
and_any false test xs = no_items xs

-- a test of the same row
pub of_same_row : (test : Row → Bool) (row other : Row) → (test other && same_row row other) ≡ (test row && same_row row other)
of_same_row test row other = by (same_row row other) refl
  where
    by : (t : Bool) → same_row row other ≡ t → (test other && t) ≡ (test row && t)
    by true same = ap (λ r. test r && true) (sym (equal_from_same_row row other same))
    by false differs = and-false (test other) ∙ sym (and-false (test row))

-- the rows of a list that pass a test
any_filter : (test : Row → Bool) (row : Row) (rows : List Row) → list_any (same_row row) (filter test rows) ≡ (list_any (same_row row) rows && test row)
any_filter test row [] = refl
any_filter test row (x ∷ xs) = one (test x) (list_any (same_row row) (filter test xs)) refl ∙ ap (λ t. (test x && same_row row x) || t) (any_filter test row xs) ∙ ap (λ t. t || (list_any (same_row row) xs && test row)) (of_same_row test row x) ∙ both (test row) (same_row row x) (list_any (same_row row) xs)
  where
    one : (t b : Bool) → list_any (same_row row) (filter test xs) ≡ b → list_any (same_row row) (cond t (x ∷ filter test xs) (filter test xs)) ≡ ((t && same_row row x) || b)
    one true b is = ap (λ u. same_row row x || u) is
    one false b is = is

    both : (t s r : Bool) → ((t && s) || (r && t)) ≡ ((s || r) && t)
    both true true r = refl
    both true false r = refl
    both false s true = sym (and-false (s || true))
    both false s false = sym (and-false (s || false))

pub just_filtered : (held kept : List Row) (stood mine taken : Row → Bool) → ((row : Row) → list_any (same_row row) held ≡ (stood row && mine row)) → kept ≡ filter taken held
    → HasJust (λ row. mine row && (stood row && taken row)) kept
just_filtered held kept stood mine taken are is = record {
  is = λ row. ap (list_any (same_row row)) is ∙ any_filter taken row held ∙ ap (λ t. t && taken row) (are row) ∙ first_last (stood row) (mine row) (taken row);
}
