-- Which list of privileges is meant by what is named.
use Rattle.std.specs.Prelude.{◌≡◌, ℕ, ◌==◌, not, if◌then◌else◌, List, [], ◌∷◌, filter, codes, refl}
use Rattle.std.specs.Int.{bit_at}
use Rattle.std.specs.List.{flat_map}
use Rattle.acl_names.specs.Text.{text_eq}
use Rattle.acl_stmt.specs.declared.columns.ColumnPriv.{ColumnPriv}
use Rattle.acl_stmt.specs.declared.privileges.PrivList.{PrivList}
use Rattle.priv_sets.specs.StaticSet.{holds}
use Rattle.priv_items.specs.Naming.{columns_of, is_all, items_in, names_dynamic, names_plain}
use Rattle.priv_items.specs.declared.item.Named.{Named}

-- each text once, in the order of first standing
abbrev pub each_once : List (List ℕ) → List (List ℕ)
each_once [] = []
each_once (text ∷ texts) = text ∷ filter (λ other. not (text_eq other text)) (each_once texts)

example-each_once : each_once (codes "b" ∷ codes "a" ∷ codes "b" ∷ []) ≡ codes "b" ∷ codes "a" ∷ []
example-each_once = refl

-- the columns of a static privilege
abbrev pub names_on : ℕ → ColumnPriv → List (List ℕ)
names_on number listed = if number == listed.privilege then listed.names else []

-- the columns that a list has for the static privilege of a number
abbrev pub columns_on : List ColumnPriv → ℕ → List (List ℕ)
columns_on lists number = flat_map (names_on number) lists

-- the list holds what is named, and nothing else: the columns of a privilege over all its lists, in the order of first
-- naming, each once
pub record IsMeant (named : Named) (list : PrivList) : Type 0 where
  pub all : list.all ≡ is_all named
  pub plain : (q : ℕ) → holds list.plain q ≡ names_plain (items_in named) q
  pub columns : (q : ℕ) → columns_on list.columns q ≡ each_once (columns_of (items_in named) q)
  pub dynamic : (q : ℕ) → (bit_at list.dynamic q == 1) ≡ names_dynamic (items_in named) q
