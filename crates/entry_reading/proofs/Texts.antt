-- Statements, by their canonical texts.
use Rattle.std.proofs.Common.{◌≡◌, ◌&&◌, ◌<◌, ◌≤◌, ◌^◌, ℕ, true, false, List, ◌++◌, length, sym, ap, subst, ◌∙◌, arith}
use Rattle.std.specs.Str.{IsUtf8}
use Rattle.std.proofs.lemmas.Bool.{and_from}
use Rattle.acl_stmt.specs.Entries.{is_complete, may_have_limits}
use Rattle.acl_stmt.specs.declared.limit.Limit.{Limit}
use Rattle.acl_stmt.specs.declared.statement.Statement.{Statement}
use Rattle.canonical_texts.specs.Statements.{canonical_text}
use Rattle.entry_bytes.proofs.Once.{long_once}
use Rattle.entry_bytes.specs.Faults.{NoneBegins}
use Rattle.entry_bytes.specs.Spelling.{HasText, MayStand, long_text, statement_bytes}
use Rattle.entry_bytes.specs.Texts.{IsLong}
use Rattle.entry_fields.specs.Reading.{IsFieldFault}
use Rattle.entry_fields.specs.declared.fields.FieldFault.{FieldFault}
use Rattle.entry_fields.specs.declared.fields.FieldFault.TheVariants as field
use Rattle.entry_reading.specs.Faults.{text_field_fault}
use Rattle.grant_refusal.specs.declared.ParseRefusal.{ParseRefusal}
use Rattle.grant_refusal.specs.declared.ParseRefusal.TheVariants as parse
use Rattle.grant_parse.proofs.Once.{spelled_once}
use Rattle.grant_parse.proofs.Unique.{one_statement, statement_meant_once}
use Rattle.grant_parse.specs.Meaning.{IsStatement, MeansStatement}
use Rattle.grant_parse.specs.Statements.{SpellsStatement}

one_reading : (most other : ℕ) (text : List ℕ) (a b : Statement) → IsStatement most text a → IsStatement other text b → a ≡ b
one_reading most other text a b (short, m, spelled, fits, means) (short', m', spelled', fits', means') =
    let one = spelled_once SpellsStatement one_statement text m m' spelled spelled' in
    statement_meant_once m a b means (subst (λ n. MeansStatement n b) (sym one) means')

-- what is read from its canonical text is read back from it
pub has_text : (most : ℕ) (text : List ℕ) (s : Statement) → IsUtf8 text → length text < 2 ^ 32 → IsStatement most text s → canonical_text s ≡ text → HasText s
has_text most text s utf8 short is same = record {
  utf8 = subst IsUtf8 (sym same) utf8;
  short = subst (λ l. length l < 2 ^ 32) (sym same) short;
  read_back = λ room fits. subst (λ l. IsStatement room l s) (sym same) (again room (subst (λ l. length l ≤ room) same fits) is);
}
  where
    again : (room : ℕ) → length text ≤ room → IsStatement most text s → IsStatement room text s
    again room fits (short, m, spelled, none, means) = (fits, m, spelled, none, means)

read_at : (text : List ℕ) (s : Statement) → HasText s → canonical_text s ≡ text → IsStatement (length text) text s
read_at text s has same =
    subst (λ l. IsStatement (length text) l s) same (has.read_back (length text) (subst (λ l. length l ≤ length text) (sym same) (omega arith)))

pub wider : (text : List ℕ) (s : Statement) → length text < 2 ^ 32 → HasText s → canonical_text s ≡ text → IsStatement 4294967295 text s
wider text s short has same = more (read_at text s has same)
  where
    more : IsStatement (length text) text s → IsStatement 4294967295 text s
    more (fits, m, spelled, none, means) = (omega arith, m, spelled, none, means)

-- spelled otherwise than in its canonical text
pub otherwise : (text : List ℕ) (s : Statement) → IsStatement 4294967295 text s → (canonical_text s ≡ text → ⊥)
    → (other : Statement) → HasText other → canonical_text other ≡ text → ⊥
otherwise text s is differs other has same =
    let one : s ≡ other = one_reading 4294967295 (length text) text s other is (read_at text other has same) in
    differs (ap canonical_text one ∙ same)

pub same_statement : (text : List ℕ) (s other : Statement) → HasText s → canonical_text s ≡ text → HasText other → canonical_text other ≡ text → s ≡ other
same_statement text s other has same has' same' =
    one_reading (length text) (length text) text s other (read_at text s has same) (read_at text other has' same')

-- ---- as a field

pub no_text : (limits : List Limit) (bytes : List ℕ) → NoneBegins long_text IsLong bytes → NoneBegins statement_bytes (MayStand limits) bytes
no_text limits bytes none value rest fits e = none (canonical_text value) rest (record { utf8 = fits.text.utf8; short = fits.text.short }) e

pub other_text : (limits : List Limit) (bytes behind text : List ℕ) → IsLong text → bytes ≡ long_text text ++ behind
    → ((value : Statement) → MayStand limits value → canonical_text value ≡ text → ⊥) → NoneBegins statement_bytes (MayStand limits) bytes
other_text limits bytes behind text is found none value rest fits e =
    let same = long_once text (canonical_text value) behind rest is.short fits.text.short (sym found ∙ e) in
    none value fits (sym same.0)

pub may_not : (limits : List Limit) (text : List ℕ) (s : Statement) → HasText s → canonical_text s ≡ text → (is_complete s && may_have_limits limits s) ≡ false
    → (value : Statement) → MayStand limits value → canonical_text value ≡ text → ⊥
may_not limits text s has same not value fits same' =
    let one : s ≡ value = same_statement text s value has same fits.text same' in
    let may : (is_complete s && may_have_limits limits s) ≡ true =
    subst (λ x. (is_complete x && may_have_limits limits x) ≡ true) (sym one) (and_from (is_complete value) (may_have_limits limits value) fits.complete fits.limited) in
    absurd (cc)

-- ---- faults of the field

pub wider_fault : (A B : Type 0) (fault : FieldFault) → (A → B) → IsFieldFault A fault → IsFieldFault B fault
wider_fault A B field.Bad leads is = leads is
wider_fault A B field.NoMemory leads is = tt

pub no_statement_in : (Reads : Statement → Type 0) (refusal : ParseRefusal) → ((s : Statement) → Reads s → refusal ≡ parse.NoMemory)
    → IsFieldFault ((s : Statement) → Reads s → ⊥) (text_field_fault refusal)
no_statement_in Reads parse.NoMemory only = tt
no_statement_in Reads parse.Limit only = λ s is. let e = only s is in absurd (cc)
no_statement_in Reads (parse.Syntax offset) only = λ s is. let e = only s is in absurd (cc)
no_statement_in Reads (parse.WrongLevel privilege) only = λ s is. let e = only s is in absurd (cc)
