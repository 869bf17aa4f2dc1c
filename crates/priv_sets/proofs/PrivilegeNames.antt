-- Laws of the names of both kinds of privileges.
use Rattle.std.proofs.Common.{◌≡◌, ◌≢◌, ap, sym, ℕ, ◌<◌, List, IsTrue}
use Rattle.std.proofs.lemmas.Bool.{ltb-true}
use Rattle.std.specs.Str.{str_to_ascii_uppercase}
use Rattle.priv_sets.specs.DynamicNames.{dynamic_name}
use Rattle.priv_sets.specs.PlainNames.{plain_name}
use Rattle.priv_sets.specs.Privileges.{is_privilege, privilege_name}
use Rattle.priv_sets.specs.declared.privilege.Privilege.{Privilege}
use Rattle.priv_sets.specs.declared.privilege.Privilege.TheVariants.{Plain, Dynamic}
use Rattle.priv_sets.proofs.Names.{distinct_names, distinct_dynamic_names, distinct_kinds, capital_name, capital_dynamic_name}

pub distinct_privileges : (p q : Privilege) → IsTrue (is_privilege p) → IsTrue (is_privilege q) → privilege_name p ≡ privilege_name q → p ≡ q
distinct_privileges (Plain m) (Plain n) m_below n_below same = ap Plain (distinct_names m n (ltb-true m 31 m_below) (ltb-true n 31 n_below) same)
distinct_privileges (Plain m) (Dynamic n) m_below n_below same = absurd (distinct_kinds m n (ltb-true m 31 m_below) (ltb-true n 20 n_below) same)
distinct_privileges (Dynamic m) (Plain n) m_below n_below same = absurd (distinct_kinds n m (ltb-true n 31 n_below) (ltb-true m 20 m_below) (sym same))
distinct_privileges (Dynamic m) (Dynamic n) m_below n_below same = ap Dynamic (distinct_dynamic_names m n (ltb-true m 20 m_below) (ltb-true n 20 n_below) same)

-- a text that names neither kind names no privilege
pub no_name : (text : List ℕ) → ((p : ℕ) → p < 31 → text ≢ plain_name p) → ((p : ℕ) → p < 20 → text ≢ dynamic_name p) → (p : Privilege) → IsTrue (is_privilege p) → text ≢ privilege_name p
no_name text plain dynamic (Plain n) below same = plain n (ltb-true n 31 below) same
no_name text plain dynamic (Dynamic n) below same = dynamic n (ltb-true n 20 below) same

pub capital_privilege : (p : Privilege) → str_to_ascii_uppercase (privilege_name p) ≡ privilege_name p
capital_privilege (Plain n) = capital_name n
capital_privilege (Dynamic n) = capital_dynamic_name n
