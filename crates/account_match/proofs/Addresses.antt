-- A text that spells no IPv4 address has none.
use Rattle.std.proofs.Common.{◌≡◌, ◌<◌, ◌+◌, ◌*◌, ℕ, List, [], ◌∷◌, Option, Some, None, length, append-nil, lit≤, refl, sym, ◌∙◌, ap, subst, arith}
use borrow.Author.Tests.{ne_eqb}
use Rattle.std.specs.Prelude.{option_map}
use Rattle.std.specs.Int.{w32, from_be_bytes}
use Rattle.std.specs.Net.Grammar.{IsDotted, IsIpv4Text}
use Rattle.std.specs.Net.Text.{dotted_text}
use Rattle.std.specs.Net.Reader.{read_ipv4, whole_value}
use Rattle.std.specs.declared.net.ipv4_addr.Ipv4Addr.{Ipv4Addr}
use Rattle.std.proofs.NetLemmas.Ipv4.{read_ipv4_complete, read_ipv4_sound}
use Rattle.account_match.specs.Address.{IsSpelled, address_of}

at_rest : (text : List ℕ) → ((a : Ipv4Addr) → ¬ (IsIpv4Text text a)) → (octets rest : List ℕ) → read_ipv4 text ≡ Some (octets, rest) →
    None ≡ option_map (from_be_bytes w32) (whole_value (Some (octets, rest)))
at_rest text never octets [] e =
    let (front, split, spelled) = read_ipv4_sound text octets [] e in
    absurd (never (record { octets = octets }) (subst (λ (t : List ℕ). IsDotted t octets) (sym (split ∙ append-nil front)) spelled))
at_rest text never octets (c ∷ rest) e = rw (ne_eqb (length (c ∷ rest)) 0 (omega arith)) refl

at_read : (text : List ℕ) → ((a : Ipv4Addr) → ¬ (IsIpv4Text text a)) → (read : Option (List ℕ × List ℕ)) → read_ipv4 text ≡ read →
    None ≡ option_map (from_be_bytes w32) (whole_value read)
at_read text never None e = refl
at_read text never (Some read) e = at_rest text never read.0 read.1 e

pub no_address : (text : List ℕ) → ((a : Ipv4Addr) → ¬ (IsIpv4Text text a)) → None ≡ address_of text
unfolding address_of
no_address text never = at_read text never (read_ipv4 text) refl

-- the bits of four octets
bits_of : (a b c d : ℕ) → a < 256 → b < 256 → c < 256 → d < 256 → from_be_bytes w32 (a ∷ b ∷ c ∷ d ∷ []) ≡ ((a * 256 + b) * 256 + c) * 256 + d
bits_of a b c d a_fits b_fits c_fits d_fits = omega arith

pub address_read : (a b c d : ℕ) → a < 256 → b < 256 → c < 256 → d < 256 → address_of (dotted_text a b c d) ≡ Some (((a * 256 + b) * 256 + c) * 256 + d)
unfolding address_of
address_read a b c d a_fits b_fits c_fits d_fits =
    let dotted : IsDotted (dotted_text a b c d) (a ∷ b ∷ c ∷ d ∷ []) = record {
      a = a;
      b = b;
      c = c;
      d = d;
      fit = (a_fits, b_fits, c_fits, d_fits);
      value = refl;
      spelled = refl;
    } in
    let read = rw append-nil at (read_ipv4_complete (dotted_text a b c d) (a ∷ b ∷ c ∷ d ∷ []) [] dotted (lit≤ tt)) in
    rw read (ap Some (bits_of a b c d a_fits b_fits c_fits d_fits))

spelled_at_rest : (text octets rest : List ℕ) (bits : ℕ) → read_ipv4 text ≡ Some (octets, rest) →
    option_map (from_be_bytes w32) (whole_value (Some (octets, rest))) ≡ Some bits → IsSpelled text bits
spelled_at_rest text octets [] bits e is =
    let (front, split, dotted) = read_ipv4_sound text octets [] e in
    let value : from_be_bytes w32 octets ≡ bits = cc in
    record {
      a = dotted.a;
      b = dotted.b;
      c = dotted.c;
      d = dotted.d;
      fit = dotted.fit;
      spelled = split ∙ append-nil front ∙ dotted.spelled;
      value = sym value ∙ ap (from_be_bytes w32) dotted.value ∙ bits_of dotted.a dotted.b dotted.c dotted.d dotted.fit.0 dotted.fit.1 dotted.fit.2 dotted.fit.3;
    }
spelled_at_rest text octets (c ∷ rest) bits e is =
    let none = rw (ne_eqb (length (c ∷ rest)) 0 (omega arith)) at is in absurd (cc)

spelled_at : (text : List ℕ) (bits : ℕ) (read : Option (List ℕ × List ℕ)) → read_ipv4 text ≡ read →
    option_map (from_be_bytes w32) (whole_value read) ≡ Some bits → IsSpelled text bits
spelled_at text bits None e is = absurd (cc)
spelled_at text bits (Some read) e is = spelled_at_rest text read.0 read.1 bits e is

pub address_spelled : (text : List ℕ) (bits : ℕ) → address_of text ≡ Some bits → IsSpelled text bits
unfolding address_of
address_spelled text bits is = spelled_at text bits (read_ipv4 text) refl is
