-- Schemas, tables, columns and roles in order, each once.
use Rattle.std.specs.Prelude.{◌≡◌, ℕ, Bool, ◌&&◌, ◌||◌, if◌then◌else◌, List, [], ◌∷◌, codes, refl}
use Rattle.std.specs.List.{list_any}
use Rattle.std.specs.Ordering.{is_lt}
use Rattle.acl_names.specs.AuthId.{auth_cmp}
use Rattle.acl_names.specs.Text.{text_cmp, text_eq}
use Rattle.acl_names.specs.declared.auth.AuthId.{AuthId}

-- before the first key that is greater
unfoldable pub put_in : {K : Type 0} → (K → K → Bool) → K → List K → List K
put_in less key [] = key ∷ []
put_in less key (first ∷ rest) = if less key first then key ∷ first ∷ rest else first ∷ put_in less key rest

unfoldable pub in_order : {K : Type 0} → (K → K → Bool) → (K → K → Bool) → List K → List K
in_order same less [] = []
in_order same less (key ∷ keys) = if list_any (same key) (in_order same less keys) then in_order same less keys else put_in less key (in_order same less keys)

-- the name of a table or a routine within a schema
abbrev pub Pair : Type 0
Pair = List ℕ × List ℕ

abbrev pub same_pair : Pair → Pair → Bool
same_pair x y = text_eq x.0 y.0 && text_eq x.1 y.1

-- by the bytes of the names
abbrev pub text_less : List ℕ → List ℕ → Bool
text_less s t = is_lt (text_cmp s t)

abbrev pub pair_less : Pair → Pair → Bool
pair_less x y = text_less x.0 y.0 || (text_eq x.0 y.0 && text_less x.1 y.1)

-- by the user, then the host
abbrev pub auth_less : AuthId → AuthId → Bool
auth_less a b = is_lt (auth_cmp a b)

example-in_order : in_order text_eq text_less (codes "b" ∷ codes "a" ∷ codes "ab" ∷ codes "a" ∷ []) ≡ codes "a" ∷ codes "ab" ∷ codes "b" ∷ []
unfolding in_order put_in
example-in_order = refl
