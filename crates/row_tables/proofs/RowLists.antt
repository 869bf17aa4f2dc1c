-- Lists of rows, and their parts.
use Rattle.std.proofs.Common.{◌≡◌, ◌∙◌, ap, sym, ℕ, ◌<◌, ◌+◌, Bool, true, false, cond, ◌&&◌, ◌||◌, List, [], ◌∷◌, ◌++◌, length, get_or, take, filter, refl}
use Rattle.std.proofs.Math.Bool.{and-false, or-false}
use Rattle.std.proofs.lemmas.Bool.{and_from, or_left, or_right}
use Rattle.std.proofs.lemmas.List.{append-nil, take_more}
use Rattle.std.proofs.lemmas.List.Elements.{filter-append}
use Rattle.std.proofs.lemmas.List.Folds.{list_any-append, list_any-from_Any}
use Rattle.std.specs.List.{list_any}
use Rattle.acl_model.proofs.SameRows.{equal_from_same_row, same_row_itself}
use Rattle.acl_model.specs.Rows.{same_row}
use Rattle.acl_model.specs.declared.row.Row.{Row}

abbrev pub has : List Row → Row → Bool
has rows row = list_any (same_row row) rows

pub not_both : false ≡ true → ⊥
not_both is = cc

pub any-filter : (p : Row → Bool) (row : Row) (xs : List Row) → list_any (same_row row) (filter p xs) ≡ (list_any (same_row row) xs && p row)
any-filter p row [] = refl
any-filter p row (x ∷ xs) = at (p x) (same_row row x) refl refl (any-filter p row xs)
  where
    at : (t u : Bool) → p x ≡ t → same_row row x ≡ u → list_any (same_row row) (filter p xs) ≡ (list_any (same_row row) xs && p row)
        → list_any (same_row row) (cond t (x ∷ filter p xs) (filter p xs)) ≡ ((u || list_any (same_row row) xs) && p row)
    at true true passes same rest =
        let here : p row ≡ true = ap p (equal_from_same_row row x same) ∙ passes in
        rw (same, here) refl
    at false true fails same rest =
        let here : p row ≡ false = ap p (equal_from_same_row row x same) ∙ fails in
        rest ∙ ap (λ t. list_any (same_row row) xs && t) here ∙ and-false (list_any (same_row row) xs) ∙ sym here
    at true false passes differs rest = rw differs rest
    at false false fails differs rest = rest

pub any-more : (xs : List Row) (x row : Row) → has (xs ++ x ∷ []) row ≡ (has xs row || same_row row x)
any-more xs x row = list_any-append (same_row row) xs (x ∷ []) ∙ ap (λ t. has xs row || t) (or-false (same_row row x))

filtered_more : (p : Row → Bool) (all : List Row) (i : ℕ) (x : Row) → i < length all → x ≡ get_or all i x
    → filter p (take (i + 1) all) ≡ filter p (take i all) ++ cond (p x) (x ∷ []) []
filtered_more p all i x within is =
    ap (filter p) (take_more all i x within ∙ ap (λ y. take i all ++ y ∷ []) (sym is)) ∙ filter-append p (take i all) (x ∷ [])

-- a row that passes
pub passing_more : (p : Row → Bool) (all : List Row) (i : ℕ) (x : Row) → i < length all → x ≡ get_or all i x → p x ≡ true
    → filter p (take (i + 1) all) ≡ filter p (take i all) ++ x ∷ []
passing_more p all i x within is passes = filtered_more p all i x within is ∙ ap (λ t. filter p (take i all) ++ cond t (x ∷ []) []) passes

-- a row that does not pass
pub failing_more : (p : Row → Bool) (all : List Row) (i : ℕ) (x : Row) → i < length all → x ≡ get_or all i x → p x ≡ false
    → filter p (take (i + 1) all) ≡ filter p (take i all)
failing_more p all i x within is fails =
    filtered_more p all i x within is ∙ ap (λ t. filter p (take i all) ++ cond t (x ∷ []) []) fails ∙ append-nil (filter p (take i all))

-- an item is listed
pub listed : (all : List Row) (i : ℕ) (x : Row) → i < length all → x ≡ get_or all i x → has all x ≡ true
listed all i x within is = list_any-from_Any (same_row x) all (i, x, within, sym is, same_row_itself x)

-- what is listed and passes is in the part
pub part_has : (p : Row → Bool) (row : Row) (all : List Row) → has all row ≡ true → p row ≡ true → has (filter p all) row ≡ true
part_has p row all there passes = any-filter p row all ∙ and_from (has all row) (p row) there passes

-- a row that passes
pub some_row : (test : Row → Bool) (rows : List Row) → list_any test rows ≡ true → (row : Row) × (list_any (same_row row) rows ≡ true) × (test row ≡ true)
some_row test [] any = cc
some_row test (x ∷ rows) any = at (test x) refl (some_row test rows)
  where
    at : (t : Bool) → test x ≡ t → (list_any test rows ≡ true → (row : Row) × (list_any (same_row row) rows ≡ true) × (test row ≡ true))
        → (row : Row) × ((same_row row x || list_any (same_row row) rows) ≡ true) × (test row ≡ true)
    at true passes later = (x, or_left (same_row x x) (list_any (same_row x) rows) (same_row_itself x), passes)
    at false fails later =
        let rest : list_any test rows ≡ true = rw fails at any in
        let found = later rest in
        (found.0, or_right (same_row found.0 x) (list_any (same_row found.0) rows) found.1, found.2)

pub passing_row : (test : Row → Bool) (rows : List Row) (r : Row) → list_any (same_row r) rows ≡ true → test r ≡ true → list_any test rows ≡ true
passing_row test [] r there passes = cc
passing_row test (x ∷ rows) r there passes = at (same_row r x) refl (λ later. passing_row test rows r later passes)
  where
    at : (t : Bool) → same_row r x ≡ t → (list_any (same_row r) rows ≡ true → list_any test rows ≡ true) → (test x || list_any test rows) ≡ true
    at true is rest = or_left (test x) (list_any test rows) (ap test (sym (equal_from_same_row r x is)) ∙ passes)
    at false is rest =
        let later : list_any (same_row r) rows ≡ true = rw is at there in
        or_right (test x) (list_any test rows) (rest later)
