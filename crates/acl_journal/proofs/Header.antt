-- The first bytes of a file.
use Rattle.std.proofs.Common.{◌≡◌, ◌≢◌, inl, inr, ℕ, List, length, take, drop, min, Option, None, Some, IfSome, sym, ap, ◌∙◌}
use Rattle.std.proofs.lemmas.List.{take_min}
use Rattle.acl_ports.specs.Disk.{IsReadAt}
use Rattle.journal_bytes.specs.Damage.{IsForeign}
use Rattle.journal_bytes.specs.Files.{header}

first_eight : (held into : List ℕ) (count : ℕ) → IsReadAt held 0 into count → count ≡ min 8 (length held) → take count into ≡ take 8 held
first_eight held into count read is = read.1 ∙ ap (λ (k : ℕ). take k held) is ∙ take_min 8 held

pub header_read : (content : Option (List ℕ)) (into : List ℕ) (count : ℕ) → IfSome content (λ held. IsReadAt held 0 into count) → IfSome content (λ held. count ≡ min 8 (length held))
    → take count into ≡ header → IfSome content (λ held. take 8 held ≡ header)
header_read None into count read is same = tt
header_read (Some held) into count read is same = sym (first_eight held into count read is) ∙ same

pub other_read : (content : Option (List ℕ)) (into : List ℕ) (count total : ℕ) → IfSome content (λ held. IsReadAt held 0 into count) → IfSome content (λ held. count ≡ min 8 (length held))
    → take count into ≢ header → IfSome content (λ held. total ≡ length held → IsForeign held)
other_read None into count total read is other = tt
other_read (Some held) into count total read is other = λ whole. inr (λ same. other (first_eight held into count read is ∙ same))
