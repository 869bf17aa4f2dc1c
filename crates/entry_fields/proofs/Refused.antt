-- Fields that are names, and what was refused as one.
use Rattle.std.proofs.Common.{◌≡◌, ℕ, true, not, List, ◌++◌, Option, None, Result, Ok, Err, IfErr, sym, subst, ◌∙◌}
use Rattle.std.specs.Result.{IsErrAnd}
use Rattle.acl_names.proofs.SameAuth.{text_eq_itself}
use Rattle.acl_names.specs.Name.{IsRefusal}
use Rattle.acl_names.specs.Text.{text_eq}
use Rattle.acl_names.specs.declared.refusal.NameRefusal.{NameRefusal}
use Rattle.acl_names.specs.declared.refusal.NameRefusal.TheVariants.{BadByte, Empty, TooLong, NoMemory}
use Rattle.entry_bytes.proofs.Once.{short_once}
use Rattle.entry_bytes.specs.Faults.{NoneBegins}
use Rattle.entry_bytes.specs.Spelling.{short_text}
use Rattle.entry_bytes.specs.Texts.{IsShort}
use Rattle.entry_fields.specs.Reading.{IsFieldFault, name_field_fault}

-- a value is told by its name alone
abbrev pub HasShortName : {A : Type 0} → (A → List ℕ) → (A → Type 0) → Type 0
HasShortName {A = A} name Fits = (value : A) → Fits value → IsShort (name value)

-- no short text, and so no name
pub narrower : {A : Type 0} (name : A → List ℕ) (Fits : A → Type 0) (bytes : List ℕ) → HasShortName name Fits → NoneBegins short_text IsShort bytes
    → NoneBegins (λ value. short_text (name value)) Fits bytes
narrower name Fits bytes short none value rest fits e = none (name value) rest (short value fits) e

-- a short text that no value has for its name
pub refused : {A : Type 0} (name : A → List ℕ) (Fits : A → Type 0) (bytes text behind : List ℕ) → HasShortName name Fits
    → bytes ≡ short_text text ++ behind → IsShort text → ((value : A) → Fits value → text ≡ name value → ⊥) → NoneBegins (λ value. short_text (name value)) Fits bytes
refused name Fits bytes text behind short found is none value rest fits e =
    let same = short_once text (name value) behind rest is.short (short value fits).short (sym found ∙ e) in
    none value fits same.0

-- a name that was refused for a fault
pub faulty : {A : Type 0} (name : A → List ℕ) (Fits : A → Type 0) (bytes text behind : List ℕ) (fault : Option NameRefusal) (refusal : NameRefusal) → HasShortName name Fits
    → ((value : A) → Fits value → text ≡ name value → fault ≡ None) → bytes ≡ short_text text ++ behind → IsShort text → IsRefusal fault refusal
    → IsFieldFault (NoneBegins (λ value. short_text (name value)) Fits bytes) (name_field_fault refusal)
faulty name Fits bytes text behind fault NoMemory short within found is e = tt
faulty name Fits bytes text behind fault (BadByte offset) short within found is e = refused name Fits bytes text behind short found is (λ value fits same. let none = within value fits same in absurd (cc))
faulty name Fits bytes text behind fault Empty short within found is e = refused name Fits bytes text behind short found is (λ value fits same. let none = within value fits same in absurd (cc))
faulty name Fits bytes text behind fault (TooLong limit) short within found is e = refused name Fits bytes text behind short found is (λ value fits same. let none = within value fits same in absurd (cc))

-- what a `?` passes on
pub passed_on : {T E : Type 0} {Q : E → Type 0} (P : E → Type 0) (r : Result T E) → IsErrAnd r Q → ((y : E) → Q y → P y) → IfErr r P
passed_on P (Ok x) is leads = tt
passed_on P (Err y) is leads = leads y is

-- texts that the test tells apart are not the same
pub unlike : (a b : List ℕ) → not (text_eq a b) ≡ true → a ≡ b → ⊥
unlike a b differ same = let alike : text_eq a b ≡ true = subst (λ l. text_eq a l ≡ true) same (text_eq_itself a) in absurd (cc)
