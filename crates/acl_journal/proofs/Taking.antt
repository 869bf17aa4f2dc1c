-- An entry that is read and taken, or not.
use Rattle.std.proofs.Common.{◌≡◌, ◌⊎◌, inl, inr, ℕ, ◌+◌, ◌≤◌, List, [], ◌∷◌, ◌++◌, length, drop, Option, None, Some, IfSome, refl, sym, ap, subst, ◌∙◌, append-nil, arith}
use Rattle.acl_model.specs.Acceptance.{IsAccepted}
use Rattle.acl_model.specs.State.{State}
use Rattle.acl_stmt.specs.declared.entry.Entry.{Entry}
use Rattle.entry_bytes.proofs.Once.{long_once}
use Rattle.entry_bytes.proofs.Parts.{entry_once, with_behind}
use Rattle.entry_bytes.specs.Spelling.{HasBytes, bytes_of, long_text}
use Rattle.journal_bytes.specs.Files.{most_bytes, payload_bytes, record_bytes}
use Rattle.journal_disk.specs.Read.{BeginsBadly, BeginsWith}
use Rattle.acl_journal.specs.Recovery.{GoesOn, HasNoRecord, NoneIsAccepted, TakesEntry}

same_entry : (a b : Entry) → HasBytes a → HasBytes b → bytes_of a ≡ bytes_of b → a ≡ b
same_entry a b fits fits' same =
    (entry_once a b [] [] fits fits' (sym (with_behind a []) ∙ append-nil (bytes_of a) ∙ same ∙ sym (append-nil (bytes_of b)) ∙ with_behind b [])).0

pub none_accepted : (entry : Entry) (state : State) → HasBytes entry → (IsAccepted state entry → ⊥) → NoneIsAccepted (bytes_of entry) state
none_accepted entry state fits refused = λ other fits' same accepted.
    refused (subst (λ (e : Entry). IsAccepted state e) (sym (same_entry entry other fits fits' same)) accepted)

pub if_some : (content : Option (List ℕ)) (P Q : List ℕ → Type 0) → ((held : List ℕ) → P held → Q held) → IfSome content P → IfSome content Q
if_some None P Q f held = tt
if_some (Some bytes) P Q f held = f bytes held

-- the record of an entry that was taken
pub goes : (content : Option (List ℕ)) (gate next : ℕ) (before now : State) (entries more : List Entry) (payload : List ℕ) → TakesEntry payload before now entries more → next ≡ gate + 5 + length payload
    → gate + 6 + length payload ≤ most_bytes → IfSome content (λ held. BeginsWith (drop gate held) gate payload) → GoesOn content gate next before now entries more
goes content gate next before now entries more payload takes place within begins = record {
  payload = payload;
  takes = takes;
  place = place;
  within = within;
  told = if_some content _ _ (λ held with. (with.behind, with.is ∙ ap (λ p. 1 ∷ (long_text p ++ with.behind)) takes.bytes)) begins;
}

-- a record whose payload is no accepted entry's
pub refused : (bytes : List ℕ) (gate : ℕ) (payload : List ℕ) (state : State) → BeginsWith bytes gate payload → NoneIsAccepted payload state → HasNoRecord bytes gate state
refused bytes gate payload state begins none = inr (
  long_text payload ++ begins.behind,
  begins.is,
  λ entry more fits accepted small same.
      let rest : payload_bytes entry ++ more ≡ long_text payload ++ begins.behind = cc (same, begins.is) in
      let parts = long_once (bytes_of entry) payload more begins.behind (omega (arith, small)) begins.short rest in
      none entry fits (sym parts.0) accepted,
)

-- a record without a payload that fits
pub no_payload : (bytes : List ℕ) (gate : ℕ) (state : State) → BeginsBadly bytes gate → HasNoRecord bytes gate state
no_payload bytes gate state (inl none) = inl none
no_payload bytes gate state (inr (behind, is, absent)) = inr (
  behind,
  is,
  λ entry more fits accepted small same.
      let rest : behind ≡ payload_bytes entry ++ more = cc (same, is) in
      absent (bytes_of entry) more (omega (arith, small)) small rest,
)
