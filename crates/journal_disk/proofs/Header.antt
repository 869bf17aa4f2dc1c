-- A disk without bytes, on which the header is written.
use Rattle.std.proofs.Common.{◌≡◌, ◌+◌, ◌≤◌, ℕ, List, [], ◌∷◌, ◌++◌, length, drop, Option, None, Some, IfSome, IfNone, Result, Ok, Err, OnOk, refl, sym, ap, subst, ◌∙◌, append-nil, arith}
use Rattle.std.specs.Prelude.{IsSomeAnd}
use Rattle.std.specs.Option.{ForSome}
use Rattle.acl_model.specs.State.{State}
use Rattle.acl_ports.specs.Crash.{BecomesSynced, Pending, all_synced}
use Rattle.acl_ports.specs.Disk.{Stays, content_after_write}
use Rattle.journal_bytes.proofs.Histories.{history_none}
use Rattle.journal_bytes.proofs.Standing.{long_enough}
use Rattle.journal_bytes.specs.Files.{StandsFor, before_gate, file_size, header}
use Rattle.journal_disk.proofs.Steps.{all_of}
use Rattle.journal_disk.proofs.Written.{list_of}
use Rattle.journal_disk.specs.Held.{HasBytesUpTo, HoldsList}

-- the header and a gate that is not open
abbrev pub no_records : List ℕ
no_records = 65 ∷ 67 ∷ 76 ∷ 66 ∷ 79 ∷ 79 ∷ 75 ∷ 49 ∷ 0 ∷ []

bytes_of_none : no_records ≡ before_gate [] ++ 0 ∷ []
unfolding before_gate header
bytes_of_none = refl

stands_for_none : (start : State) → StandsFor start no_records []
stands_for_none start = record {
  history = history_none start;
  gate = 0;
  closed = λ e. absurd (omega (arith, e));
  behind = [];
  bytes = bytes_of_none;
}

-- nothing is told, or just these bytes were written
pub header_mid : (before mid : Option (List ℕ)) → ForSome before (λ held. held ≡ []) → IfSome before (λ held. mid ≡ Some (content_after_write held 0 no_records)) → IfNone before (mid ≡ None) → (found : Option (List ℕ)) → mid ≡ found → IfSome found (λ held. held ≡ no_records)
header_mid None mid empty done untold None is = tt
header_mid None mid empty done untold (Some held) is = cc
header_mid (Some held) mid empty done untold None is = tt
header_mid (Some held) mid empty done untold (Some found) is =
    let nothing : held ≡ [] = empty held refl in
    let written : content_after_write held 0 no_records ≡ no_records = ap (λ x. content_after_write x 0 no_records) nothing in
    cc

pub header_done : {T E : Type 0} (start : State) (mid after : Option (List ℕ)) (p q : Option Pending) (result : Result T E) → IfSome mid (λ held. held ≡ no_records)
    → OnOk result (Stays mid after) → IfNone mid (after ≡ None) → BecomesSynced mid result p q → OnOk result (IfSome after (λ held. IsSomeAnd q (HoldsList start [] held)))
header_done start mid after p q (Err fault) is stays untold step = tt
header_done start None after p q (Ok value) is stays untold step = rw untold tt
header_done start (Some held) after p q (Ok value) is stays untold step = rw (stays, step) (list_of start [] held (subst (λ x. StandsFor start x []) (sym is) (stands_for_none start)))

pub header_long : {T E : Type 0} (mid after : Option (List ℕ)) (result : Result T E) → IfSome mid (λ held. held ≡ no_records)
    → OnOk result (Stays mid after) → IfNone mid (after ≡ None) → OnOk result (HasBytesUpTo after (file_size []))
header_long mid after (Err fault) is stays untold = tt
header_long None after (Ok value) is stays untold = λ held e. absurd (cc)
header_long (Some held) after (Ok value) is stays untold = λ found e.
    let same : held ≡ found = cc in
    let enough : file_size [] ≤ length no_records = long_enough [] no_records 0 [] bytes_of_none in
    subst (λ (x : List ℕ). file_size [] ≤ length x) (sym is ∙ same) enough
