-- The entries that were read so far, and what is left of the file behind them.
use Rattle.std.proofs.Common.{◌≡◌, ◌≢◌, ◌⊎◌, inl, inr, ℕ, ◌+◌, ◌<◌, ◌≤◌, List, [], ◌∷◌, ◌++◌, length, take, drop, Option, None, Some, IfSome, IfNone, refl, sym, ap, subst, ◌∙◌, append_assoc, append-nil, length-append, take-append-drop, arith}
use Rattle.std.proofs.lemmas.List.{drop_at}
use Rattle.acl_model.specs.Acceptance.{IsAccepted}
use Rattle.acl_model.specs.Effects.{after, state_after}
use Rattle.acl_model.specs.State.{State}
use Rattle.acl_ports.specs.Disk.{Stays}
use Rattle.acl_stmt.specs.declared.entry.Entry.{Entry}
use Rattle.entry_bytes.specs.Spelling.{HasBytes, bytes_of}
use Rattle.journal_bytes.proofs.Histories.{history_more, history_none, state_more, state_none}
use Rattle.journal_bytes.proofs.Sizes.{bytes_more, place, size_more, size_none}
use Rattle.journal_bytes.specs.Damage.{IsBad, IsDamagedAt}
use Rattle.journal_bytes.specs.Files.{IsHistory, MayFollow, StandsFor, before_gate, file_size, header, most_bytes, most_entries, record_bytes}
use Rattle.journal_disk.specs.Read.{BeginsClosed}
use Rattle.acl_journal.specs.Refusals.{IsRefusedAs}
use Rattle.acl_journal.specs.declared.refusal.OpenRefusal.{OpenRefusal}
use Rattle.acl_journal.specs.declared.refusal.OpenRefusal.TheVariants.{Damaged, DiskFault, NoMemory, NotJournal}
use Rattle.acl_journal.specs.Recovery.{GoesOn, HasNoRecord, IsOpenOrNone, TakesEntry}

-- the records of these entries stand before the gate, where the file begins with the header
abbrev pub StandsBefore : List Entry → ℕ → List ℕ → Type 0
StandsBefore entries gate held = take 8 held ≡ header → held ≡ before_gate entries ++ drop gate held

pub record Progress (start : State) (gate : ℕ) (entries : List Entry) (now : State) (content : Option (List ℕ)) : Type 0 where
  pub history : IsHistory start entries
  pub size : gate + 1 ≡ file_size entries
  pub state : now ≡ state_after entries start
  pub told : IfSome content (StandsBefore entries gate)

if_some : (content : Option (List ℕ)) (P Q : List ℕ → Type 0) → ((held : List ℕ) → P held → Q held) → IfSome content P → IfSome content Q
if_some None P Q f held = tt
if_some (Some bytes) P Q f held = f bytes held

all_if_some : (content : Option (List ℕ)) (Q : List ℕ → Type 0) → ((held : List ℕ) → Q held) → IfSome content Q
all_if_some None Q f = tt
all_if_some (Some bytes) Q f = f bytes

before_none : before_gate [] ≡ header
unfolding before_gate
before_none = append-nil header

-- behind the header
pub progress_none : (start : State) (content : Option (List ℕ)) → Progress start 8 [] start content
progress_none start content = record {
  history = history_none start;
  size = sym size_none;
  state = sym (state_none start);
  told = all_if_some content (StandsBefore [] 8) (λ held begins.
      sym (take-append-drop 8 held) ∙ ap (λ x. x ++ drop 8 held) (begins ∙ sym before_none));
}

-- one entry more
module _ (start : State) (gate next : ℕ) (entries more : List Entry) (now later : State) (content : Option (List ℕ)) (progress : Progress start gate entries now content)
    (goes : GoesOn content gate next now later entries more) where
  payload_size : length goes.payload ≡ length (bytes_of goes.takes.entry)
  payload_size = ap length goes.takes.bytes

  follows : length entries < most_entries → MayFollow start entries goes.takes.entry
  follows few = record {
    written = goes.takes.written;
    accepted = subst (λ (s : State). IsAccepted s goes.takes.entry) progress.state goes.takes.accepted;
    few = few;
    small = omega (arith, size_more entries goes.takes.entry, progress.size, goes.within, payload_size);
  }

  next_size : next + 1 ≡ file_size (entries ++ goes.takes.entry ∷ [])
  next_size = omega (arith, size_more entries goes.takes.entry, progress.size, goes.place, payload_size)

  told_more : (held : List ℕ) → (behind : List ℕ) × (drop gate held ≡ record_bytes goes.takes.entry ++ behind) → StandsBefore entries gate held → StandsBefore (entries ++ goes.takes.entry ∷ []) next held
  told_more held (behind, is) before begins =
      let whole : held ≡ before_gate (entries ++ goes.takes.entry ∷ []) ++ behind =
      before begins ∙ ap (λ x. before_gate entries ++ x) is ∙ sym (append_assoc (before_gate entries) (record_bytes goes.takes.entry) behind) ∙ ap (λ x. x ++ behind) (sym (bytes_more entries goes.takes.entry)) in
      let at : length (before_gate (entries ++ goes.takes.entry ∷ [])) ≡ next = omega (arith, place (entries ++ goes.takes.entry ∷ []), next_size) in
      whole ∙ ap (λ x. before_gate (entries ++ goes.takes.entry ∷ []) ++ x) (sym (ap (drop next) whole ∙ drop_at (before_gate (entries ++ goes.takes.entry ∷ [])) behind next at))

  both : (content : Option (List ℕ)) (P Q R : List ℕ → Type 0) → ((held : List ℕ) → P held → Q held → R held) → IfSome content P → IfSome content Q → IfSome content R
  both None P Q R f p q = tt
  both (Some held) P Q R f p q = f held p q

  pub progress_more : length entries < most_entries → Progress start next more later content
  progress_more few =
      subst (λ (list : List Entry). Progress start next list later content) (sym goes.takes.list) (record {
        history = history_more start entries goes.takes.entry progress.history (follows few);
        size = next_size;
        state = goes.takes.state ∙ ap (after goes.takes.entry) progress.state ∙ sym (state_more entries goes.takes.entry start);
        told = both content _ (StandsBefore entries gate) (StandsBefore (entries ++ goes.takes.entry ∷ []) next) told_more goes.told progress.told;
      })

-- where the entries end
module _ (start : State) (gate : ℕ) (entries : List Entry) (now : State) (held : List ℕ) (history : IsHistory start entries) (size : gate + 1 ≡ file_size entries) (state : now ≡ state_after entries start)
    (before : StandsBefore entries gate held) (begins : take 8 held ≡ header) where
  pub ends : BeginsClosed (drop gate held) → StandsFor start held entries
  ends end = record {
    history = history;
    gate = end.gate;
    closed = end.closed;
    behind = end.behind;
    bytes = before begins ∙ ap (λ x. before_gate entries ++ x) end.is;
  }

  damage_at : 9 ≤ length held → IsBad start entries (drop gate held) → IsDamagedAt start held gate
  damage_at long bad = record {
    long = long;
    entries = entries;
    history = history;
    bad = drop gate held;
    bytes = before begins;
    place = omega (arith, size, place entries);
    fault = bad;
  }

  no_record : (bytes : List ℕ) → HasNoRecord bytes gate now → IsBad start entries bytes
  no_record bytes (inl none) = subst (IsBad start entries) (sym none) tt
  no_record bytes (inr (behind, is, absent)) = subst (IsBad start entries) (sym is) (
    refl,
    λ entry more follows same.
        absent entry more follows.written (subst (λ (s : State). IsAccepted s entry) (sym state) follows.accepted)
        (omega (arith, follows.small, size_more entries entry, size)) (is ∙ same),
  )

  pub damaged : 9 ≤ length held → HasNoRecord (drop gate held) gate now → IsDamagedAt start held gate
  damaged long bad = damage_at long (no_record (drop gate held) bad)

  too_many : most_entries ≤ length entries → (bytes : List ℕ) → IsOpenOrNone bytes → IsBad start entries bytes
  too_many full bytes (inl none) = subst (IsBad start entries) (sym none) tt
  too_many full bytes (inr (behind, is)) = subst (IsBad start entries) (sym is) (refl, λ entry more follows same. absurd (omega (arith, full, follows.few)))

  pub full_and_open : most_entries ≤ length entries → 9 ≤ length held → IsOpenOrNone (drop gate held) → IsDamagedAt start held gate
  full_and_open full long open_one = damage_at long (too_many full (drop gate held) open_one)

-- a refusal of the next record, or of the last gate, is one of the file
module _ (start : State) (gate : ℕ) (entries : List Entry) (now : State) (total : ℕ) where
  damage_of : (held : List ℕ) (P : ℕ → Type 0) → ((offset : ℕ) → P offset → IsDamagedAt start held offset) → (refusal : OpenRefusal) → IsRefusedAs P refusal → IsRefusedAs (IsDamagedAt start held) refusal
  damage_of held P f NotJournal refused = absurd refused
  damage_of held P f (Damaged offset) refused = f offset refused
  damage_of held P f DiskFault refused = tt
  damage_of held P f NoMemory refused = tt

  pub next_refused : (content after : Option (List ℕ)) (refusal : OpenRefusal) → Progress start gate entries now content → Stays content after
      → IfSome after (λ held. total ≡ length held → IsRefusedAs (λ offset. (offset ≡ gate) × HasNoRecord (drop gate held) gate now) refusal)
      → IfSome content (λ held. take 8 held ≡ header → 9 ≤ length held → total ≡ length held → IsRefusedAs (IsDamagedAt start held) refusal)
  next_refused None after refusal progress stays told = tt
  next_refused (Some held) after refusal progress stays told = λ begins long whole.
      let here : IfSome (Some held) (λ held. total ≡ length held → IsRefusedAs (λ offset. (offset ≡ gate) × HasNoRecord (drop gate held) gate now) refusal) =
      subst (λ (o : Option (List ℕ)). IfSome o (λ held. total ≡ length held → IsRefusedAs (λ offset. (offset ≡ gate) × HasNoRecord (drop gate held) gate now) refusal)) stays told in
      damage_of held (λ offset. (offset ≡ gate) × HasNoRecord (drop gate held) gate now)
      (λ offset is. subst (λ (k : ℕ). IsDamagedAt start held k) (sym is.0) (damaged start gate entries now held progress.history progress.size progress.state progress.told begins long is.1)) refusal (here whole)

  pub end_refused : (content after : Option (List ℕ)) (refusal : OpenRefusal) → most_entries ≤ length entries → Progress start gate entries now content → Stays content after
      → IfSome after (λ held. IsRefusedAs (λ offset. (offset ≡ gate) × IsOpenOrNone (drop gate held)) refusal)
      → IfSome content (λ held. take 8 held ≡ header → 9 ≤ length held → total ≡ length held → IsRefusedAs (IsDamagedAt start held) refusal)
  end_refused None after refusal full progress stays told = tt
  end_refused (Some held) after refusal full progress stays told = λ begins long whole.
      let here : IfSome (Some held) (λ held. IsRefusedAs (λ offset. (offset ≡ gate) × IsOpenOrNone (drop gate held)) refusal) =
      subst (λ (o : Option (List ℕ)). IfSome o (λ held. IsRefusedAs (λ offset. (offset ≡ gate) × IsOpenOrNone (drop gate held)) refusal)) stays told in
      damage_of held (λ offset. (offset ≡ gate) × IsOpenOrNone (drop gate held))
      (λ offset is. subst (λ (k : ℕ). IsDamagedAt start held k) (sym is.0) (full_and_open start gate entries now held progress.history progress.size progress.state progress.told begins full long is.1)) refusal here

-- the file ends at a gate that is not open
pub end_found : (start : State) (gate : ℕ) (entries : List Entry) (now : State) (content after : Option (List ℕ)) → Progress start gate entries now content → Stays content after
    → IfSome after (λ held. BeginsClosed (drop gate held)) → IfSome content (λ held. take 8 held ≡ header → StandsFor start held entries)
end_found start gate entries now None after progress stays told = tt
end_found start gate entries now (Some held) after progress stays told = λ begins.
    let here : IfSome (Some held) (λ held. BeginsClosed (drop gate held)) = subst (λ (o : Option (List ℕ)). IfSome o (λ held. BeginsClosed (drop gate held))) stays told in
    ends start gate entries now held progress.history progress.size progress.state progress.told begins here

-- what is told of the content still
pub goes_still : (content after : Option (List ℕ)) (gate next : ℕ) (before now : State) (entries more : List Entry) → Stays content after → IfNone content (after ≡ None) → GoesOn after gate next before now entries more → GoesOn content gate next before now entries more
goes_still None after gate next before now entries more stays untold goes = record { payload = goes.payload; takes = goes.takes; place = goes.place; within = goes.within; told = tt }
goes_still (Some held) after gate next before now entries more stays untold goes = subst (λ (o : Option (List ℕ)). GoesOn o gate next before now entries more) stays goes
