-- A file whose last gate and what is behind it change.
use Rattle.std.proofs.Common.{◌≡◌, ◌≢◌, ℕ, ◌+◌, ◌<◌, ◌≤◌, List, [], ◌∷◌, ◌++◌, length, take, drop, get_or, refl, sym, ap, subst, ◌∙◌, append_assoc, length-append, length-take, length-drop, take-append-drop, arith}
use Rattle.std.proofs.lemmas.List.{drop_at, drop_more, take_at}
use Rattle.acl_model.specs.State.{State}
use Rattle.acl_ports.specs.Disk.{content_after_write}
use Rattle.acl_stmt.specs.declared.entry.Entry.{Entry}
use Rattle.journal_bytes.proofs.Sizes.{place}
use Rattle.journal_bytes.specs.Files.{MayFollow, StandsEitherWay, StandsFor, before_gate, file_size, payload_bytes}

-- what stands behind the gate
tail_of : (front : List ℕ) (gate : ℕ) (tail : List ℕ) → drop (length front + 1) (front ++ gate ∷ tail) ≡ tail
tail_of front gate tail =
    ap (drop (length front + 1)) (sym (append_assoc front (gate ∷ []) tail))
    ∙ drop_at (front ++ gate ∷ []) tail (length front + 1) (length-append front (gate ∷ []))

-- both sides of a gate, and another gate between them
parted : (other : List ℕ) (at : ℕ) → at < length other → other ≡ take at other ++ get_or other at 0 ∷ drop (at + 1) other
parted other at inside = sym (take-append-drop at other) ∙ ap (λ x. take at other ++ x) (drop_more other at 0 inside)

-- the file with another gate
pub with_gate : (start : State) (file other : List ℕ) (entries : List Entry) (entry : Entry) (gate : ℕ) → StandsEitherWay start file entries entry
    → other ≡ take (length (before_gate entries)) file ++ gate ∷ drop (length (before_gate entries) + 1) file
    → (either : StandsEitherWay start other entries entry) × (either.gate ≡ gate)
with_gate start file other entries entry gate either is = (
  record {
    history = either.history;
    follows = either.follows;
    gate = gate;
    next_gate = either.next_gate;
    closed = either.closed;
    behind = either.behind;
    bytes =
        let front = before_gate entries in
        let tail = payload_bytes entry ++ either.next_gate ∷ either.behind in
        is
        ∙ ap (λ x. take (length front) x ++ gate ∷ drop (length front + 1) x) either.bytes
        ∙ ap (λ x. x ++ gate ∷ drop (length front + 1) (front ++ either.gate ∷ tail)) (take_at front (either.gate ∷ tail) (length front) refl)
        ∙ ap (λ x. front ++ gate ∷ x) (tail_of front either.gate tail);
  },
  refl,
)

pub same_sides : (start : State) (file other : List ℕ) (entries : List Entry) (entry : Entry) → StandsEitherWay start file entries entry
    → take (length (before_gate entries)) other ≡ take (length (before_gate entries)) file
    → drop (length (before_gate entries) + 1) other ≡ drop (length (before_gate entries) + 1) file
    → length file ≤ length other → StandsEitherWay start other entries entry
same_sides start file other entries entry either front back long =
    let at = length (before_gate entries) in
    let inside : length (before_gate entries) < length other =
    omega (arith, long, ap length either.bytes, length-append (before_gate entries) (either.gate ∷ (payload_bytes entry ++ either.next_gate ∷ either.behind))) in
    (with_gate start file other entries entry (get_or other at 0) either
    (parted other at inside ∙ ap (λ x. x ++ get_or other at 0 ∷ drop (at + 1) other) front ∙ ap (λ x. take at file ++ get_or other at 0 ∷ x) back)).0

-- what is written behind a gate
behind_gate : (file before behind payload bytes : List ℕ) (gate size : ℕ) → file ≡ before ++ gate ∷ behind → length before + 1 ≡ size → bytes ≡ payload ++ 0 ∷ []
    → content_after_write file size bytes ≡ before ++ gate ∷ (payload ++ 0 ∷ drop (size + length bytes) file)
behind_gate file before behind payload bytes gate size is place written =
    let front = before ++ gate ∷ [] in
    let rest = drop (size + length bytes) file in
    let long : length (before ++ gate ∷ []) ≡ size = length-append before (gate ∷ []) ∙ place in
    let whole : file ≡ (before ++ gate ∷ []) ++ behind = is ∙ sym (append_assoc before (gate ∷ []) behind) in
    ap (λ x. x ++ bytes ++ rest) (ap (take size) whole ∙ take_at front behind size long)
    ∙ ap (λ x. front ++ x ++ rest) written
    ∙ append_assoc front (payload ++ 0 ∷ []) rest
    ∙ ap (λ x. front ++ x) (append_assoc payload (0 ∷ []) rest)
    ∙ append_assoc before (gate ∷ []) (payload ++ 0 ∷ rest)

-- the file with the record of an entry and a gate that is not open behind its last gate
pub with_record : (start : State) (file : List ℕ) (entries : List Entry) (entry : Entry) (bytes : List ℕ) → StandsFor start file entries → MayFollow start entries entry
    → bytes ≡ payload_bytes entry ++ 0 ∷ [] → StandsEitherWay start (content_after_write file (file_size entries) bytes) entries entry
with_record start file entries entry bytes stands follows is = record {
  history = stands.history;
  follows = follows;
  gate = stands.gate;
  next_gate = 0;
  closed = λ e. absurd (omega (arith, e));
  behind = drop (file_size entries + length bytes) file;
  bytes = behind_gate file (before_gate entries) stands.behind (payload_bytes entry) bytes stands.gate (file_size entries) stands.bytes (place entries) is;
}
