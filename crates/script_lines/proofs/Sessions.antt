-- The sessions of a script that is read line by line.
use Rattle.std.proofs.Common.{◌≡◌, ℕ, ◌<◌, ◌≤◌, Bool, true, false, ◌||◌, ◌⊎◌, nat_lt, not, if◌then◌else◌, List, [], ◌∷◌, ◌++◌, length, filter, slice_index_or, None, Some, cond, inl, inr, position, refl, sym, ap, subst, ◌∙◌, arith, length-append, append-nil}
use Rattle.std.specs.List.{list_any, position_or_len}
use Rattle.std.specs.Str.{bytes_eq}
use Rattle.std.proofs.lemmas.Bool.{ltb-true, false_from_ne_true, not-true}
use Rattle.std.proofs.lemmas.Bool.Decides.{nat_tests}
use Rattle.std.proofs.lemmas.List.Elements.{filter-append}
use Rattle.std.proofs.lemmas.List.Folds.{list_any_at, list_any_none}
use Rattle.std.proofs.lemmas.List.Quantifiers.{position-Some}
use Rattle.std.proofs.lemmas.List.Sums.{prefix_len_passes}
use Rattle.std.proofs.lemmas.Slice.Eq.{bytes_eq-Decides}
use Rattle.std.proofs.Math.ListN.{get_or-append}
use Rattle.std.proofs.Math.Seq.{get_or-append_seam}
use Rattle.script_lines.specs.Adding.{with_name, Seats}
use Rattle.script_lines.specs.Script.{first_appearances}

same_bytes : (a b : List ℕ) → bytes_eq a b ≡ true → a ≡ b
same_bytes a b = (bytes_eq-Decides a b).0

bytes_eq-same : (a b : List ℕ) → a ≡ b → bytes_eq a b ≡ true
bytes_eq-same a b = (bytes_eq-Decides a b).1

abbrev pub any_of : List (List ℕ) → List ℕ → Bool
any_of names name = list_any (λ other. bytes_eq other name) names

-- dropping another name leaves the test for a name
any-filter_step : (z y x : List ℕ) (rest : List (List ℕ)) (b : Bool) → bytes_eq z y ≡ b → bytes_eq y x ≡ false
    → list_any (λ o. bytes_eq o x) (filter (λ o. not (bytes_eq o y)) rest) ≡ list_any (λ o. bytes_eq o x) rest
    → list_any (λ o. bytes_eq o x) (if not b then z ∷ filter (λ o. not (bytes_eq o y)) rest else filter (λ o. not (bytes_eq o y)) rest) ≡ (bytes_eq z x || list_any (λ o. bytes_eq o x) rest)
any-filter_step z y x rest true same other ih =
    let e : bytes_eq z x ≡ false = ap (λ w. bytes_eq w x) (same_bytes z y same) ∙ other in
    ih ∙ ap (λ b. b || list_any (λ o. bytes_eq o x) rest) (sym e)
any-filter_step z y x rest false same other ih = ap (λ b. bytes_eq z x || b) ih

any-filter : (names : List (List ℕ)) (y x : List ℕ) → bytes_eq y x ≡ false → list_any (λ o. bytes_eq o x) (filter (λ o. not (bytes_eq o y)) names) ≡ list_any (λ o. bytes_eq o x) names
any-filter [] y x other = refl
any-filter (z ∷ rest) y x other = ap (λ b. list_any (λ o. bytes_eq o x) (if b then z ∷ filter (λ o. not (bytes_eq o y)) rest else filter (λ o. not (bytes_eq o y)) rest)) refl ∙ any-filter_step z y x rest (bytes_eq z y) refl other (any-filter rest y x other)

with_name-push_step : (y : List ℕ) (seen : List (List ℕ)) (x : List ℕ) (there same : Bool) → any_of seen x ≡ there → bytes_eq y x ≡ same
    → y ∷ filter (λ o. not (bytes_eq o y)) (if there then seen else seen ++ x ∷ [])
    ≡ (if same || any_of (filter (λ o. not (bytes_eq o y)) seen) x then y ∷ filter (λ o. not (bytes_eq o y)) seen else (y ∷ filter (λ o. not (bytes_eq o y)) seen) ++ x ∷ [])
with_name-push_step y seen x true true is_there is_same = refl
with_name-push_step y seen x true false is_there is_same =
    let others = filter (λ (o : List ℕ). not (bytes_eq o y)) seen in
    let still : any_of others x ≡ true = any-filter seen y x is_same ∙ is_there in
    ap (λ b. if b then y ∷ others else (y ∷ others) ++ x ∷ []) (sym still)
with_name-push_step y seen x false true is_there is_same =
    let others = filter (λ (o : List ℕ). not (bytes_eq o y)) seen in
    let back : bytes_eq x y ≡ true = bytes_eq-same x y (sym (same_bytes y x is_same)) in
    ap (λ (names : List (List ℕ)). y ∷ names) (filter-append (λ o. not (bytes_eq o y)) seen (x ∷ []) ∙ ap (λ b. others ++ (if not b then x ∷ [] else [])) back ∙ append-nil others)
with_name-push_step y seen x false false is_there is_same =
    let others = filter (λ (o : List ℕ). not (bytes_eq o y)) seen in
    let back : bytes_eq x y ≡ false = false_from_ne_true (bytes_eq x y) (λ e. let there : bytes_eq y x ≡ true = bytes_eq-same y x (sym (same_bytes x y e)) in (cc)) in
    let still : any_of others x ≡ false = any-filter seen y x is_same ∙ is_there in
    ap (λ (names : List (List ℕ)). y ∷ names) (filter-append (λ o. not (bytes_eq o y)) seen (x ∷ []) ∙ ap (λ b. others ++ (if not b then x ∷ [] else [])) back)
    ∙ ap (λ b. if b then y ∷ others else (y ∷ others) ++ x ∷ []) (sym still)

-- one name more at the end
pub first_appearances-push : (names : List (List ℕ)) (name : List ℕ) → first_appearances (names ++ name ∷ []) ≡ with_name (first_appearances names) name
first_appearances-push [] name = refl
first_appearances-push (y ∷ names) x =
    ap (λ seen. y ∷ filter (λ o. not (bytes_eq o y)) seen) (first_appearances-push names x)
    ∙ with_name-push_step y (first_appearances names) x (any_of (first_appearances names) x) (bytes_eq y x) refl refl

-- a name that is found has its place
pub seats_found : (names : List (List ℕ)) (name : List ℕ) (place : ℕ) → position (λ other. bytes_eq other name) names ≡ Some place → Seats names names name place
seats_found names name place found =
    let at = position-Some (λ other. bytes_eq other name) names place [] found in
    record {
      names_are = ap (λ b. if b then names else names ++ name ∷ []) (sym (list_any_at (λ other. bytes_eq other name) names place [] at.0 at.1));
      within = at.0;
      named = same_bytes (slice_index_or names place []) name at.1;
    }

nat_lt_cases : (a b : ℕ) (t : Bool) → nat_lt a b ≡ t → ((t ≡ true) × (a < b)) ⊎ ((t ≡ false) × (b ≤ a))
nat_lt_cases a b true e = inl (refl, ltb-true a b e)
nat_lt_cases a b false e = inr (refl, grind (arith, nat_tests))

pub nat_lt_tells : (a b : ℕ) → ((nat_lt a b ≡ true) × (a < b)) ⊎ ((nat_lt a b ≡ false) × (b ≤ a))
nat_lt_tells a b = nat_lt_cases a b (nat_lt a b) refl

pub none_passes : {X : Type 0} (p : X → Bool) (xs : List X) → position p xs ≡ None → list_any p xs ≡ false
none_passes p xs none =
    elim (nat_lt_tells (position_or_len p xs) (length xs)) [
      | inl found ↦
          let some : Some (position_or_len p xs) ≡ None = ap (λ b. cond b (Some (position_or_len p xs)) None) (sym found.0) ∙ none in
          absurd (cc)
      | inr past ↦ list_any_none p xs (λ k d below. not-true (p (slice_index_or xs k d)) (prefix_len_passes (λ x. not (p x)) xs k d (omega arith)))
    ]

-- a new name has the place at the end
pub seats_new : (names : List (List ℕ)) (name : List ℕ) → position (λ other. bytes_eq other name) names ≡ None → Seats names (names ++ name ∷ []) name (length names)
seats_new names name none = record {
  names_are = ap (λ b. if b then names else names ++ name ∷ []) (sym (none_passes (λ other. bytes_eq other name) names none));
  within = omega (arith, length-append names (name ∷ []));
  named = get_or-append_seam names name [] [];
}

-- the sessions with one more, or the same ones: each keeps its place
keeps_step : (names : List (List ℕ)) (name : List ℕ) (b : Bool) (i : ℕ) → i < length names → slice_index_or (if b then names else names ++ name ∷ []) i [] ≡ slice_index_or names i []
keeps_step names name true i below = refl
keeps_step names name false i below = get_or-append names (name ∷ []) [] i below

pub grows_step : (names : List (List ℕ)) (name : List ℕ) (b : Bool) → length names ≤ length (if b then names else names ++ name ∷ [])
grows_step names name true = omega arith
grows_step names name false = omega (arith, length-append names (name ∷ []))

pub record Grows (old new : List (List ℕ)) : Type 0 where
  pub longer : length old ≤ length new
  pub keeps : (i : ℕ) → i < length old → slice_index_or new i [] ≡ slice_index_or old i []

pub grows : (names new : List (List ℕ)) (name : List ℕ) → new ≡ with_name names name → Grows names new
grows names new name e =
    let P : List (List ℕ) → Type 0 = λ more. Grows names more in
    subst P (sym e) (record { longer = grows_step names name (any_of names name); keeps = keeps_step names name (any_of names name) })
