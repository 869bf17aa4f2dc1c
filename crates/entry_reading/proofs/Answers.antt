-- Bytes are read as one entry, or refused at one offset.
use Rattle.std.proofs.Common.{◌≡◌, ℕ, List, [], Result, Ok, Err, IfErr, IfOk, inl, inr, refl, sym, ap, subst, ◌∙◌, append-nil}
use Rattle.acl_stmt.specs.declared.entry.Entry.{Entry}
use Rattle.entry_bytes.proofs.Parts.{entry_once, with_behind}
use Rattle.entry_bytes.proofs.Places.{one_offset, spelled_well}
use Rattle.entry_bytes.specs.Faults.{IsBadAt}
use Rattle.entry_bytes.specs.Spelling.{HasBytes, bytes_of}
use Rattle.entry_reading.specs.Decoding.{DecodesAs, IsDecodeRefusal, RefusesAt}
use Rattle.entry_reading.specs.declared.decoding.DecodeRefusal.{DecodeRefusal}
use Rattle.entry_reading.specs.declared.decoding.DecodeRefusal.TheVariants.{BadEntry, NoMemory}

same_entry : (a b : Entry) → HasBytes a → HasBytes b → bytes_of a ≡ bytes_of b → a ≡ b
same_entry a b has has' same =
    (entry_once a b [] [] has has' (sym (with_behind a []) ∙ append-nil (bytes_of a) ∙ same ∙ sym (append-nil (bytes_of b)) ∙ with_behind b [])).0

pub decoded_only : (bytes : List ℕ) (r : Result Entry DecodeRefusal) → IfOk r (λ entry. bytes ≡ bytes_of entry) → IfOk r HasBytes → IfErr r (IsDecodeRefusal bytes)
    → (entry : Entry) → HasBytes entry → bytes ≡ bytes_of entry → DecodesAs r entry
decoded_only bytes (Ok made) ok has err entry has' same = same_entry made entry has has' (sym ok ∙ same)
decoded_only bytes (Err (BadEntry offset)) ok has err entry has' same = absurd (spelled_well entry offset has' (subst (λ l. IsBadAt l offset) same err))
decoded_only bytes (Err NoMemory) ok has err entry has' same = refl

pub decoded_exactly : (bytes : List ℕ) (r : Result Entry DecodeRefusal) → IfOk r (λ entry. bytes ≡ bytes_of entry) → IfOk r HasBytes → IfErr r (IsDecodeRefusal bytes)
    → (offset : ℕ) → IsBadAt bytes offset → RefusesAt r offset
decoded_exactly bytes (Ok made) ok has err offset bad = spelled_well made offset has (subst (λ l. IsBadAt l offset) ok bad)
decoded_exactly bytes (Err (BadEntry other)) ok has err offset bad = inl (ap BadEntry (one_offset bytes other offset err bad))
decoded_exactly bytes (Err NoMemory) ok has err offset bad = inr refl
