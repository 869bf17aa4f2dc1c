-- What a file stands for, and where it is damaged.
use Rattle.std.proofs.Common.{◌≡◌, ◌≢◌, ◌⊎◌, inl, inr, ⊎_elim, ℕ, ◌+◌, ◌<◌, ◌≤◌, List, [], ◌∷◌, ◌++◌, length, take, drop, refl, sym, ap, subst, ◌∙◌, append_assoc, length-append, take-append-drop, arith}
use Rattle.std.proofs.lemmas.Bool.{cases_eq}
use Rattle.std.proofs.lemmas.List.{take_at}
use Rattle.std.specs.List.{flat_map}
use Rattle.acl_model.specs.State.{State}
use Rattle.acl_stmt.specs.declared.entry.Entry.{Entry}
use Rattle.journal_bytes.proofs.Fronts.{Compared, Extends, Longer, Same, Shorter, compare}
use Rattle.journal_bytes.proofs.Histories.{follows_in, history_more}
use Rattle.journal_bytes.proofs.Sizes.{at_least, behind_header, bytes_more, length-header, place}
use Rattle.journal_bytes.specs.Damage.{IsBad, IsDamagedAt, IsForeign}
use Rattle.journal_bytes.specs.Files.{IsHistory, MayFollow, StandsEitherWay, StandsFor, before_gate, file_size, header, payload_bytes, record_bytes}

-- no record is behind a gate that is not open
no_more : (entries others : List Entry) (gate : ℕ) (behind y : List ℕ) → gate ≢ 1 → Extends others entries y (gate ∷ behind) → ⊥
no_more entries others gate behind y closed more = closed (cc (more.rest))

pub one_list : (start : State) (file : List ℕ) (entries others : List Entry) → StandsFor start file entries → StandsFor start file others → entries ≡ others
one_list start file entries others stands stands' =
    told (compare start entries others (stands.gate ∷ stands.behind) (stands'.gate ∷ stands'.behind) stands.history stands'.history (sym stands.bytes ∙ stands'.bytes))
  where
    told : Compared entries others (stands.gate ∷ stands.behind) (stands'.gate ∷ stands'.behind) → entries ≡ others
    told (Same list rest) = list
    told (Longer more) = absurd (no_more others entries stands'.gate stands'.behind _ stands'.closed more)
    told (Shorter more) = absurd (no_more entries others stands.gate stands.behind _ stands.closed more)

-- a gate is not bad where the record of an entry that may follow stands
good_gate : (start : State) (entries others : List Entry) (x y : List ℕ) → IsHistory start others → Extends others entries y x → IsBad start entries x → ⊥
good_gate start entries others x y history more bad =
    let follows : MayFollow start entries more.entry = follows_in start entries more.entry more.more (subst (IsHistory start) more.list history) in
    let here : IsBad start entries (record_bytes more.entry ++ more.behind) = subst (IsBad start entries) more.rest bad in
    here.1 more.entry more.behind follows refl

pub one_offset : (start : State) (file : List ℕ) (offset other : ℕ) → IsDamagedAt start file offset → IsDamagedAt start file other → offset ≡ other
one_offset start file offset other damaged damaged' =
    told (compare start damaged.entries damaged'.entries damaged.bad damaged'.bad damaged.history damaged'.history (sym damaged.bytes ∙ damaged'.bytes))
  where
    told : Compared damaged.entries damaged'.entries damaged.bad damaged'.bad → offset ≡ other
    told (Same list rest) = damaged.place ∙ ap (λ entries. length (before_gate entries)) list ∙ sym damaged'.place
    told (Longer more) = absurd (good_gate start damaged'.entries damaged.entries damaged'.bad damaged.bad damaged.history more damaged'.fault)
    told (Shorter more) = absurd (good_gate start damaged.entries damaged'.entries damaged.bad damaged'.bad damaged'.history more damaged.fault)

pub undamaged : (start : State) (file : List ℕ) (entries : List Entry) (offset : ℕ) → StandsFor start file entries → IsDamagedAt start file offset → ⊥
undamaged start file entries offset stands damaged =
    told (compare start entries damaged.entries (stands.gate ∷ stands.behind) damaged.bad stands.history damaged.history (sym stands.bytes ∙ damaged.bytes))
  where
    told : Compared entries damaged.entries (stands.gate ∷ stands.behind) damaged.bad → ⊥
    told (Same list rest) =
        let here : IsBad start damaged.entries (stands.gate ∷ stands.behind) = subst (IsBad start damaged.entries) (sym rest) damaged.fault in
        stands.closed here.0
    told (Longer more) = good_gate start damaged.entries entries damaged.bad _ stands.history more damaged.fault
    told (Shorter more) = no_more entries damaged.entries stands.gate stands.behind _ stands.closed more

has_header : (entries : List Entry) (rest : List ℕ) → take 8 (before_gate entries ++ rest) ≡ header
has_header entries rest = ap (take 8) (behind_header entries rest) ∙ take_at header (flat_map record_bytes entries ++ rest) 8 length-header

not_foreign : (entries : List Entry) (file rest : List ℕ) → 9 ≤ length file → file ≡ before_gate entries ++ rest → IsForeign file → ⊥
not_foreign entries file rest long bytes (inl short) = absurd (omega arith)
not_foreign entries file rest long bytes (inr other) = other (ap (take 8) bytes ∙ has_header entries rest)

pub long_enough : (entries : List Entry) (file : List ℕ) (gate : ℕ) (behind : List ℕ) → file ≡ before_gate entries ++ gate ∷ behind → file_size entries ≤ length file
long_enough entries file gate behind bytes = omega (arith, ap length bytes, length-append (before_gate entries) (gate ∷ behind), place entries)

pub stands_not_foreign : (start : State) (file : List ℕ) (entries : List Entry) → StandsFor start file entries → IsForeign file → ⊥
stands_not_foreign start file entries stands =
    not_foreign entries file (stands.gate ∷ stands.behind) (omega (arith, at_least entries, long_enough entries file stands.gate stands.behind stands.bytes)) stands.bytes

pub damaged_not_foreign : (start : State) (file : List ℕ) (offset : ℕ) → IsDamagedAt start file offset → IsForeign file → ⊥
damaged_not_foreign start file offset damaged = not_foreign damaged.entries file damaged.bad damaged.long damaged.bytes

-- a file with the same front up to and with the last gate
pub same_front : (start : State) (file other : List ℕ) (entries : List Entry) → StandsFor start file entries → take (file_size entries) other ≡ take (file_size entries) file → StandsFor start other entries
same_front start file other entries stands same = record {
  history = stands.history;
  gate = stands.gate;
  closed = stands.closed;
  behind = drop (file_size entries) other;
  bytes =
      let front = before_gate entries ++ stands.gate ∷ [] in
      let long : length (before_gate entries ++ stands.gate ∷ []) ≡ file_size entries = omega (arith, length-append (before_gate entries) (stands.gate ∷ []), place entries) in
      let here : file ≡ front ++ stands.behind = stands.bytes ∙ sym (append_assoc (before_gate entries) (stands.gate ∷ []) stands.behind) in
      sym (take-append-drop (file_size entries) other)
      ∙ ap (λ x. x ++ drop (file_size entries) other) (same ∙ ap (take (file_size entries)) here ∙ take_at front stands.behind (file_size entries) long)
      ∙ append_assoc (before_gate entries) (stands.gate ∷ []) (drop (file_size entries) other);
}

-- behind an open gate the record counts
pub with_entry : (start : State) (file : List ℕ) (entries : List Entry) (entry : Entry) → (either : StandsEitherWay start file entries entry) → either.gate ≡ 1 → StandsFor start file (entries ++ entry ∷ [])
with_entry start file entries entry either is = record {
  history = history_more start entries entry either.history either.follows;
  gate = either.next_gate;
  closed = either.closed;
  behind = either.behind;
  bytes =
      either.bytes
      ∙ ap (λ (gate : ℕ). before_gate entries ++ gate ∷ (payload_bytes entry ++ either.next_gate ∷ either.behind)) is
      ∙ sym (append_assoc (before_gate entries) (record_bytes entry) (either.next_gate ∷ either.behind))
      ∙ ap (λ x. x ++ either.next_gate ∷ either.behind) (sym (bytes_more entries entry));
}

pub without_entry : (start : State) (file : List ℕ) (entries : List Entry) (entry : Entry) → (either : StandsEitherWay start file entries entry) → either.gate ≢ 1 → StandsFor start file entries
without_entry start file entries entry either closed = record {
  history = either.history;
  gate = either.gate;
  closed = closed;
  behind = payload_bytes entry ++ either.next_gate ∷ either.behind;
  bytes = either.bytes;
}

pub either_way : (start : State) (file : List ℕ) (entries : List Entry) (entry : Entry) → StandsEitherWay start file entries entry → StandsFor start file entries ⊎ StandsFor start file (entries ++ entry ∷ [])
either_way start file entries entry either =
    ⊎_elim (λ is. inr (with_entry start file entries entry either is)) (λ closed. inl (without_entry start file entries entry either closed)) (cases_eq either.gate 1)
