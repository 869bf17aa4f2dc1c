-- Lists of rows and of accounts.
use Rattle.std.proofs.Common.{◌≡◌, ◌∙◌, ap, sym, subst, ℕ, ◌<◌, ◌+◌, Bool, true, false, ◌&&◌, ◌||◌, List, [], ◌∷◌, ◌++◌, get_or, length, take, refl, add-one}
use Rattle.std.proofs.Math.Bool.{or-false}
use Rattle.std.proofs.Math.Seq.{take-suc}
use Rattle.std.proofs.lemmas.Bool.{and_from, and_parts}
use Rattle.std.proofs.lemmas.List.Folds.{list_any-append}
use Rattle.std.specs.List.{list_any}
use Rattle.acl_names.proofs.SameAuth.{equal_from_same_auth, same_auth_itself}
use Rattle.acl_names.specs.AuthId.{same_auth}
use Rattle.acl_names.specs.declared.auth.AuthId.{AuthId}
use Rattle.acl_model.specs.Firsts.{HasNone}
use Rattle.acl_model.specs.Rows.{holder, lists, same_row}
use Rattle.acl_model.specs.declared.row.Row.{Row}
use Rattle.acl_rows.proofs.RowLists.{some_row}

-- one account more
pub lists_more : (accounts : List AuthId) (i : ℕ) (account a : AuthId) → i < length accounts → account ≡ get_or accounts i account
    → lists (take (i + 1) accounts) a ≡ (lists (take i accounts) a || same_auth a account)
lists_more accounts i account a within is =
    rw (add-one, take-suc accounts i account within)
    (list_any-append (same_auth a) (take i accounts) (get_or accounts i account ∷ [])
    ∙ ap (λ (x : AuthId). lists (take i accounts) a || (same_auth a x || false)) (sym is)
    ∙ ap (λ t. lists (take i accounts) a || t) (or-false (same_auth a account)))

-- the rows that an account holds among those that stand
abbrev pub AreRowsOf : (Row → Bool) → AuthId → List Row → Type 0
AreRowsOf stands account held = (row : Row) → list_any (same_row row) held ≡ (stands row && same_auth (holder row) account)

pub row_of : (stands : Row → Bool) (account : AuthId) (held : List Row) → AreRowsOf stands account held → (row : Row) → stands row ≡ true → holder row ≡ account
    → list_any (same_row row) held ≡ true
row_of stands account held are row there own =
    are row ∙ and_from (stands row) (same_auth (holder row) account) there (ap (λ (x : AuthId). same_auth x account) own ∙ same_auth_itself account)

-- a row of the account that passes
pub found_row : (stands : Row → Bool) (account : AuthId) (held : List Row) → AreRowsOf stands account held → (test : Row → Bool) → list_any test held ≡ true
    → (row : Row) × (test row ≡ true) × (stands row ≡ true) × (holder row ≡ account)
found_row stands account held are test any =
    let found = some_row test held any in
    let parts = and_parts (stands found.0) (same_auth (holder found.0) account) (sym (are found.0) ∙ found.1) in
    (found.0, found.2, parts.0, equal_from_same_auth (holder found.0) account parts.1)

pub none_of_none : {X : Type 0} (P : X → Type 0) → HasNone P []
none_of_none P [] item later split has = cc
none_of_none P (first ∷ earlier) item later split has = cc

-- none of a list, nor the item after it
pub none_and_last : {X : Type 0} (P : X → Type 0) (xs : List X) (x : X) → HasNone P xs → (P x → ⊥) → HasNone P (xs ++ x ∷ [])
none_and_last P [] x none last [] item later split has =
    let same : item ≡ x = cc in
    last (subst P same has)
none_and_last P [] x none last (first ∷ earlier) item later split has =
    let rest : [] ≡ earlier ++ item ∷ later = cc in
    none_of_none P earlier item later rest has
none_and_last P (y ∷ ys) x none last [] item later split has =
    let same : y ≡ item = cc in
    none [] y ys refl (subst P (sym same) has)
none_and_last P (y ∷ ys) x none last (first ∷ earlier) item later split has =
    let rest : ys ++ x ∷ [] ≡ earlier ++ item ∷ later = cc in
    none_and_last P ys x (λ before z after split_ys has_z. none (y ∷ before) z after (ap (λ zs. y ∷ zs) split_ys) has_z) last earlier item later rest has
