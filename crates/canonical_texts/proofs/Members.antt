-- Lists of texts, member by member.
use Rattle.std.proofs.Common.{◌≡◌, ℕ, suc, ◌+◌, Bool, true, false, cond, Result, Ok, Err, is_ok, OnOk, List, [], ◌∷◌, ◌++◌, map, refl, sym, ap, ◌∙◌, append_assoc, append-nil, add-one}
use Rattle.std.specs.List.{flat_map}
use Rattle.std.specs.Prelude.{codes}
use Rattle.acl_names.specs.AuthId.{auth_text}
use Rattle.acl_names.specs.declared.auth.AuthId.{AuthId}
use Rattle.acl_stmt.specs.declared.privileges.PrivList.{PrivList}
use Rattle.mandatory_roles.specs.Text.{roles_text}
use Rattle.priv_items.specs.Canonical.{each_below, listed_by}
use Rattle.canonical_texts.specs.Lists.{list_text}
use Rattle.canonical_texts.specs.Privileges.{item_text, privileges_text, same_text}
use Rattle.canonical_texts.specs.Statements.{activate_text}
use Rattle.canonical_texts.specs.Texts.{members_text}

pub below_none : {A : Type 0} (at : ℕ → List A) → each_below 0 at ≡ []
unfolding each_below
below_none at = refl

pub below_suc : {A : Type 0} (n : ℕ) (at : ℕ → List A) → each_below (suc n) at ≡ each_below n at ++ at n
unfolding each_below
below_suc n at = refl

pub below_start : {A : Type 0} (at : ℕ → List A) (old : List A) → old ≡ old ++ each_below 0 at
below_start at old = sym (append-nil old) ∙ ap (λ l. old ++ l) (sym (below_none at))

pub below_step : {A : Type 0} (at : ℕ → List A) (n : ℕ) (old before after : List A) → after ≡ before ++ at n → before ≡ old ++ each_below n at → after ≡ old ++ each_below (n + 1) at
below_step at n old before after e f =
    e ∙ ap (λ l. l ++ at n) f ∙ append_assoc old (each_below n at) (at n) ∙ ap (λ l. old ++ l) (sym (ap (λ k. each_below k at) (add-one n) ∙ below_suc n at))

others_text : {A : Type 0} (between : List ℕ) (print : A → List ℕ) (xs : List A) → flat_map (λ other. between ++ same_text other) (map print xs) ≡ flat_map (λ other. between ++ print other) xs
others_text between print [] = refl
others_text between print (x ∷ xs) = ap (λ l. (between ++ print x) ++ l) (others_text between print xs)

list_of_texts : {A : Type 0} (before between : List ℕ) (print : A → List ℕ) (xs : List A) → list_text before between same_text (map print xs) ≡ list_text before between print xs
list_of_texts before between print [] = refl
list_of_texts before between print (x ∷ xs) = ap (λ l. before ++ (print x ++ l)) (others_text between print xs)

pub items_written : {A : Type 0} (print : A → List ℕ) (xs : List A) (privileges : PrivList) → map print xs ≡ listed_by item_text privileges → privileges.all ≡ false
    → list_text (codes " ") (codes ", ") print xs ≡ privileges_text privileges
items_written print xs privileges items all =
    sym (list_of_texts (codes " ") (codes ", ") print xs) ∙ ap (members_text same_text) items
    ∙ sym (ap (λ t. cond t (codes " ALL") (members_text same_text (listed_by item_text privileges))) all)

other_roles : (second : AuthId) (roles : List AuthId) → flat_map (λ other. codes "," ++ auth_text other) (second ∷ roles) ≡ codes "," ++ roles_text (second ∷ roles)
other_roles second [] = ap (λ l. codes "," ++ l) (append-nil (auth_text second))
other_roles second (third ∷ roles) =
    ap (λ l. (codes "," ++ auth_text second) ++ l) (other_roles third roles)

pub roles_written : (roles : List AuthId) → list_text [] (codes ",") auth_text roles ≡ roles_text roles
roles_written [] = refl
roles_written (role ∷ []) = append-nil (auth_text role)
roles_written (role ∷ second ∷ roles) = ap (λ l. auth_text role ++ l) (other_roles second roles)

-- what a push leaves where it succeeds
pub pushed : {T E : Type 0} (r : Result T E) (old after words text : List ℕ) → after ≡ cond (is_ok r) (old ++ words) old → words ≡ text → OnOk r (after ≡ old ++ text)
pushed (Ok x) old after words text e f = e ∙ ap (λ l. old ++ l) f
pushed (Err x) old after words text e f = tt

pub three_parts : (old a b c first second third : List ℕ) → first ≡ old ++ a → second ≡ first ++ b → third ≡ second ++ c → third ≡ old ++ (a ++ (b ++ c))
three_parts old a b c first second third e f g =
    g ∙ ap (λ l. l ++ c) (f ∙ ap (λ l. l ++ b) e) ∙ append_assoc (old ++ a) b c ∙ append_assoc old a (b ++ c)

pub activate_on : (on : Bool) → on ≡ true → codes "SET PERSIST activate_all_roles_on_login = ON" ≡ activate_text on
activate_on on e = sym (ap activate_text e)

pub activate_off : (on : Bool) → on ≡ false → codes "SET PERSIST activate_all_roles_on_login = OFF" ≡ activate_text on
activate_off on e = sym (ap activate_text e)
