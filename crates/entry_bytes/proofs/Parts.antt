-- The parts of an entry are told by their bytes.
use Rattle.std.proofs.Common.{◌≡◌, ℕ, true, List, [], ◌∷◌, ◌++◌, length, refl, sym, ap, subst, ◌∙◌, append_assoc, arith}
use Rattle.std.proofs.Props.{props}
use Rattle.std.specs.List.{AllByRecursion, flat_map}
use Rattle.std.proofs.lemmas.Bool.{and_parts, ltb-true}
use Rattle.acl_stmt.specs.Entries.{is_entry}
use Rattle.acl_stmt.specs.Limits.{is_limit}
use Rattle.acl_stmt.specs.declared.entry.Entry.{Entry}
use Rattle.acl_stmt.specs.declared.limit.Limit.{Limit}
use Rattle.acl_stmt.specs.declared.statement.Statement.{Statement}
use Rattle.canonical_texts.specs.Statements.{canonical_text}
use Rattle.grant_parse.proofs.Once.{spelled_once}
use Rattle.grant_parse.proofs.Unique.{one_statement, statement_meant_once}
use Rattle.grant_parse.specs.Meaning.{IsStatement, MeansStatement}
use Rattle.grant_parse.specs.Statements.{SpellsStatement}
use Rattle.priv_sets.specs.StaticSet.{bits_of, is_known}
use Rattle.priv_sets.specs.declared.static_set.Static.{Static}
use Rattle.entry_bytes.proofs.Names.{host_short, schema_short, user_short}
use Rattle.entry_bytes.proofs.Once.{IsReadOnce, long_once, number_once, short_once}
use Rattle.entry_bytes.specs.Faults.{ComesNext, Restricts}
use Rattle.entry_bytes.specs.Spelling.{HasBytes, HasText, IsHost, IsNumber, IsSchema, IsUser, MayStand, bytes_of, limit_bytes, number_bytes, privileges_bytes, schema_bytes, short_text, statement_bytes}

pub user_once : IsReadOnce short_text IsUser
user_once a b x y fits fits' e = short_once a b x y (user_short a fits).short (user_short b fits').short e

pub host_once : IsReadOnce short_text IsHost
host_once a b x y fits fits' e = short_once a b x y (host_short a fits).short (host_short b fits').short e

bits_fit : (privileges : Static) → Restricts privileges → IsNumber (bits_of privileges)
unfolding is_limit
bits_fit privileges is =
    let known : is_known privileges ≡ true = (and_parts (is_known privileges) _ (and_parts _ _ is).0).0 in
    omega (arith, ltb-true _ _ known)

same_set : (a b : Static) → bits_of a ≡ bits_of b → a ≡ b
same_set a b same = ap (λ (bits : ℕ). let made : Static = record { 0 = bits } in made) same

pub privileges_once : IsReadOnce privileges_bytes Restricts
privileges_once a b x y fits fits' e =
    let parts = number_once (bits_of a) (bits_of b) x y (bits_fit a fits) (bits_fit b fits') e in
    (same_set a b parts.0, parts.1)

-- the proof that a limit restricts does not tell two apart
abbrev limit_with : (parts : List ℕ × Static) → is_limit parts.1 ≡ true → Limit
limit_with parts is = record { schema = parts.0; privileges = parts.1; restricts = is }

same_limit_with : (p q : List ℕ × Static) → p ≡ q → (r : is_limit p.1 ≡ true) (s : is_limit q.1 ≡ true) → limit_with p r ≡ limit_with q s
same_limit_with p q same =
    let P : List ℕ × Static → Type 0 = λ x. (r : is_limit p.1 ≡ true) (s : is_limit x.1 ≡ true) → limit_with p r ≡ limit_with x s in
    let one : IsProp (is_limit p.1 ≡ true) = hlevel props in
    subst P same (λ r s. ap (limit_with p) (one r s))

pub same_limit : (a b : Limit) → a.schema ≡ b.schema → a.privileges ≡ b.privileges → a ≡ b
same_limit a b schema privileges =
    same_limit_with (a.schema, a.privileges) (b.schema, b.privileges) (λ i. (schema i, privileges i)) a.restricts b.restricts

pub limit_once : (limits : List Limit) (privileges : Static) → IsReadOnce schema_bytes (ComesNext limits privileges)
limit_once limits privileges a b x y fits fits' e =
    let parts = short_once a.schema b.schema x y (schema_short a.schema fits.schema).short (schema_short b.schema fits'.schema).short e in
    (same_limit a b parts.0 (fits.on ∙ sym fits'.on), parts.1)

same_text : (a b : Statement) → HasText a → HasText b → canonical_text a ≡ canonical_text b → a ≡ b
same_text a b text text' same =
    let read = text.read_back (length (canonical_text a)) (omega arith) in
    let other : IsStatement (length (canonical_text b)) (canonical_text a) b =
    subst (λ l. IsStatement (length (canonical_text b)) l b) (sym same) (text'.read_back (length (canonical_text b)) (omega arith)) in
    told read other
  where
    told : IsStatement (length (canonical_text a)) (canonical_text a) a → IsStatement (length (canonical_text b)) (canonical_text a) b → a ≡ b
    told (short, m, spelled, fits, means) (short', m', spelled', fits', means') =
        let one = spelled_once SpellsStatement one_statement (canonical_text a) m m' spelled spelled' in
        statement_meant_once m a b means (subst (λ n. MeansStatement n b) (sym one) means')

text_of_once : (a b : Statement) (x y : List ℕ) → HasText a → HasText b → statement_bytes a ++ x ≡ statement_bytes b ++ y → (a ≡ b) × (x ≡ y)
text_of_once a b x y fits fits' e =
    let parts = long_once (canonical_text a) (canonical_text b) x y fits.short fits'.short e in
    (same_text a b fits fits' parts.0, parts.1)

pub statement_once : (limits : List Limit) → IsReadOnce statement_bytes (MayStand limits)
statement_once limits a b x y fits fits' e = text_of_once a b x y fits.text fits'.text e

abbrev AreSchemas : List Limit → Type 0
AreSchemas limits = AllByRecursion (λ limit. IsSchema limit.schema) limits

pub limit_regrouped : (limit : Limit) (more x : List ℕ) → (limit_bytes limit ++ more) ++ x ≡ privileges_bytes limit.privileges ++ (schema_bytes limit ++ (more ++ x))
limit_regrouped limit more x =
    append_assoc (limit_bytes limit) more x ∙ append_assoc (privileges_bytes limit.privileges) (schema_bytes limit) (more ++ x)

limits_once : (a b : List Limit) (x y : List ℕ) → length a ≡ length b → AreSchemas a → AreSchemas b → flat_map limit_bytes a ++ x ≡ flat_map limit_bytes b ++ y
    → (a ≡ b) × (x ≡ y)
limits_once [] [] x y same fits fits' e = (refl, e)
limits_once [] (b ∷ bs) x y same fits fits' e = absurd (omega arith)
limits_once (a ∷ rest) [] x y same fits fits' e = absurd (omega arith)
limits_once (a ∷ others) (b ∷ bs) x y same fits fits' e =
    let f = sym (limit_regrouped a (flat_map limit_bytes others) x) ∙ e ∙ limit_regrouped b (flat_map limit_bytes bs) y in
    let sets = privileges_once a.privileges b.privileges _ _ a.restricts b.restricts f in
    let schemas = short_once a.schema b.schema _ _ (schema_short a.schema fits.0).short (schema_short b.schema fits'.0).short sets.1 in
    let later = limits_once others bs x y (omega arith) fits.1 fits'.1 schemas.1 in
    let first : a ≡ b = same_limit a b schemas.0 sets.0 in
    let tail : others ≡ bs = later.0 in
    (cc, later.1)

-- an entry's bytes with others behind them
abbrev pub bytes_with : Entry → List ℕ → List ℕ
bytes_with e x =
    number_bytes e.caller.0
    ++ (number_bytes e.number
    ++ (short_text e.by.user
    ++ (short_text e.by.host ++ (number_bytes (length e.limits) ++ (flat_map limit_bytes e.limits ++ (statement_bytes e.statement ++ x))))))

pub with_behind : (e : Entry) (x : List ℕ) → bytes_of e ++ x ≡ bytes_with e x
unfolding bytes_of
with_behind e x = simp append_assoc

record Parts : Type 0 where
  caller : ℕ
  number : ℕ
  user : List ℕ
  host : List ℕ
  limits : List Limit
  statement : Statement

abbrev entry_with : (p : Parts) → is_entry p.limits p.statement ≡ true → Entry
entry_with p legal = record {
  caller = record { 0 = p.caller };
  number = p.number;
  by = record { user = p.user; host = p.host };
  limits = p.limits;
  statement = p.statement;
  legal = legal;
}

abbrev parts_of : Entry → Parts
parts_of e = record { caller = e.caller.0; number = e.number; user = e.by.user; host = e.by.host; limits = e.limits; statement = e.statement }

same_entry_with : (p q : Parts) → p ≡ q → (r : is_entry p.limits p.statement ≡ true) (s : is_entry q.limits q.statement ≡ true) → entry_with p r ≡ entry_with q s
same_entry_with p q same =
    let P : Parts → Type 0 = λ x. (r : is_entry p.limits p.statement ≡ true) (s : is_entry x.limits x.statement ≡ true) → entry_with p r ≡ entry_with x s in
    let one : IsProp (is_entry p.limits p.statement ≡ true) = hlevel props in
    subst P same (λ r s. ap (entry_with p) (one r s))

pub entry_once : (a b : Entry) (x y : List ℕ) → HasBytes a → HasBytes b → bytes_with a x ≡ bytes_with b y → (a ≡ b) × (x ≡ y)
entry_once a b x y fits fits' e =
    let callers = number_once a.caller.0 b.caller.0 _ _ fits.caller fits'.caller e in
    let numbers = number_once a.number b.number _ _ fits.number fits'.number callers.1 in
    let users = user_once a.by.user b.by.user _ _ fits.user fits'.user numbers.1 in
    let hosts = host_once a.by.host b.by.host _ _ fits.host fits'.host users.1 in
    let counts = number_once (length a.limits) (length b.limits) _ _ fits.count fits'.count hosts.1 in
    let limits = limits_once a.limits b.limits _ _ counts.0 fits.schemas fits'.schemas counts.1 in
    let statements = text_of_once a.statement b.statement x y fits.text fits'.text limits.1 in
    let parts : parts_of a ≡ parts_of b =
    λ i. record { caller = callers.0 i; number = numbers.0 i; user = users.0 i; host = hosts.0 i; limits = limits.0 i; statement = statements.0 i } in
    (same_entry_with (parts_of a) (parts_of b) parts a.legal b.legal, statements.1)
