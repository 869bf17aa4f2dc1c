-- A text of many bytes has many characters, so it is no name.
use Rattle.std.proofs.Common.{◌≡◌, ℕ, suc, ◌*◌, ◌<◌, ◌≤◌, Bool, true, false, cond, ◌&&◌, eqb, nat_lt, is_none, List, [], ◌∷◌, Option, Some, None, length, refl, sym, ap, arith, IsUtf8, chars, encode_utf8_all, length-append, position}
use Rattle.std.proofs.lemmas.Bool.Decides.{nat_tests}
use Rattle.std.proofs.lemmas.Str.{encodes-chars, len_utf8_bounds, length-encode}
use Rattle.std.specs.Char.{encode_utf8, is_ascii_control}
use Rattle.acl_names.specs.Name.{control_fault, length_fault, name_fault}
use Rattle.acl_names.specs.declared.refusal.NameRefusal.{NameRefusal}
use Rattle.mandatory_roles.specs.Roles.{host_of, user_of}
use Rattle.grant_words.specs.Names.{is_some_text}
use Rattle.acl_names.specs.declared.refusal.NameRefusal.TheVariants.{TooLong}

encodes_long : (cs : List ℕ) → length (encode_utf8_all cs) ≤ 4 * length cs
encodes_long [] = omega arith
encodes_long (c ∷ cs) =
    omega (arith, length-append (encode_utf8 c) (encode_utf8_all cs), length-encode c, (len_utf8_bounds c).1, encodes_long cs)

chars_many : (text : List ℕ) (limit : ℕ) → IsUtf8 text → 4 * limit < length text → limit < length (chars text)
chars_many text limit utf8 long = omega (arith, encodes_long (chars text), ap length (encodes-chars text utf8))

some_if : (t : Bool) (fault : NameRefusal) → t ≡ true → is_none (cond t (Some fault) None) ≡ false
some_if true fault e = refl
some_if false fault e = cc

less : (a b : ℕ) → a < b → nat_lt a b ≡ true
less a b lt = grind (arith, nat_tests)

too_long : (limit : ℕ) (text : List ℕ) → limit < length (chars text) → is_none (length_fault limit text) ≡ false
too_long limit text more = some_if (nat_lt limit (length (chars text))) (TooLong limit) (less limit (length (chars text)) more)

control_none : (o : Option ℕ) (fault : Option NameRefusal) → is_none fault ≡ false → is_none (control_fault o fault) ≡ false
control_none None fault some = some
control_none (Some offset) fault some = refl

pub long_name : (limit : ℕ) (text : List ℕ) → IsUtf8 text → 4 * limit < length text → is_none (name_fault limit text) ≡ false
long_name limit text utf8 long =
    control_none (position is_ascii_control text) (length_fault limit text) (too_long limit text (chars_many text limit utf8 long))

fails_both : {A : Type 0} (a b : Bool) (x : A) → b ≡ false → None ≡ cond (a && b) (Some x) None
fails_both true b x e = rw e refl
fails_both false b x e = refl

pub no_user_long : (name : List ℕ) → IsUtf8 name → 4 * 32 < length name → None ≡ user_of name
no_user_long name utf8 long = fails_both (is_some_text name) (is_none (name_fault 32 name)) name (long_name 32 name utf8 long)

not_zero : (n : ℕ) → eqb (suc n) 0 ≡ true → ⊥
not_zero n e = grind (arith, nat_tests)

pub empty_text : (text : List ℕ) → eqb (length text) 0 ≡ true → text ≡ []
empty_text [] none = refl
empty_text (b ∷ bs) none = absurd (not_zero (length bs) none)

pub no_user_empty : (name : List ℕ) → eqb (length name) 0 ≡ true → None ≡ user_of name
no_user_empty name none = sym (ap user_of (empty_text name none))

fails_first : {A : Type 0} (a b : Bool) (x : A) → a ≡ false → None ≡ cond (a && b) (Some x) None
fails_first a b x e = rw e refl

pub no_host_long : (host : List ℕ) → IsUtf8 host → 4 * 255 < length host → None ≡ host_of host
no_host_long host utf8 long = fails_first (is_none (name_fault 255 host)) _ _ (long_name 255 host utf8 long)
