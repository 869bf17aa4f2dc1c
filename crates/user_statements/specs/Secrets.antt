-- Passwords and their verifiers.
use Rattle.std.specs.Prelude.{ℕ, ◌&&◌, Bool, true, false, not, List, [], Result, Ok, Err, codes}
use Rattle.std.specs.Char.{is_ascii_uppercase}
use Rattle.std.specs.List.{list_any}
use Rattle.hex.specs.Hex.{decode_sized}
use Rattle.hex.specs.declared.error.FromHexError.{FromHexError}
use Rattle.acl_names.specs.declared.policy.Verifier.{Verifier}
use Rattle.sha2.specs.Sha256.{sha256}
use Rattle.grant_words.specs.Classes.{Class, word}
use Rattle.grant_words.specs.Classes.Class.{valued}
use Rattle.grant_words.specs.Classes.Sort.{string}
use Rattle.grant_words.specs.Syntax.{Syntax}
use Rattle.grant_words.specs.Syntax.Syntax.{token, after, choice}

abbrev pub verifier_of : List ℕ → Verifier
verifier_of password = record { 0 = sha256 password }

-- the bytes that 64 hexadecimal digits stand for
abbrev pub decoded : List ℕ → Result (List ℕ) FromHexError
decoded text = decode_sized text 32

abbrev pub bytes_or : Result (List ℕ) FromHexError → List ℕ
bytes_or (Ok bytes) = bytes
bytes_or (Err _) = []

abbrev pub is_decoded : Result (List ℕ) FromHexError → Bool
is_decoded (Ok bytes) = true
is_decoded (Err _) = false

-- 64 hexadecimal digits, none of them a capital
abbrev pub is_digest : List ℕ → Bool
is_digest text = is_decoded (decoded text) && not (list_any is_ascii_uppercase text)

abbrev pub digest_of : List ℕ → Verifier
digest_of text = record { 0 = bytes_or (decoded text) }

abbrev pub is_any : List ℕ → Bool
is_any text = true

abbrev pub zeros : List ℕ
zeros = codes "0000000000000000000000000000000000000000000000000000000000000000"

abbrev pub password_class : Class
password_class = valued string is_any []

abbrev pub digest_class : Class
digest_class = valued string is_digest zeros

-- a password, or VERIFIER and its digest
unfoldable pub secret : Syntax Verifier
secret = choice (after (word (codes "VERIFIER")) (token digest_class digest_of)) (token password_class verifier_of)

-- BY secret
unfoldable pub by_secret : Syntax Verifier
by_secret = after (word (codes "BY")) secret

-- IDENTIFIED BY secret
abbrev pub auth : Syntax Verifier
auth = after (word (codes "IDENTIFIED")) by_secret
