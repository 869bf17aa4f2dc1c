-- A write is undone by the bytes that it replaced.
use Rattle.std.proofs.Common.{◌≡◌, ℕ, ◌+◌, ◌-◌, ◌<◌, ◌≤◌, min, max, List, [], ◌∷◌, ◌++◌, ⊎_elim, suc, get_or, length, take, drop, refl, sym, ◌∙◌, ap, subst, arith, append_assoc, length-append, length-drop, take-append-drop, true, nat_lt, Ok}
use Rattle.std.proofs.lemmas.Bool.{cases_lt}
use Rattle.std.proofs.lemmas.List.{length-take, take_at, drop_at, drop-drop, get_or-append_right, get_or-drop, get_or-take, get_or_append_left}
use Rattle.acl_ports.specs.Crash.{IsClean, IsTorn, Pending}
use Rattle.acl_ports.specs.Disk.{content_after_write}
use Rattle.acl_ports.specs.Calls.{Calls}
use Rattle.acl_ports.specs.DiskLog.{CanReturn, CanBeUndone, LogState, after_logged, content_before, content_synced, pending_after, pending_before, ranges_written, replaced_before}
use Rattle.acl_ports.specs.MemoryDisk.{DiskState, after_disk_call, after_write, replaced_bytes}
use Rattle.acl_ports.specs.declared.Failed.{Failed}
use Rattle.acl_ports.specs.declared.disk_log.Call.{Call}
use Rattle.acl_ports.specs.declared.disk_log.Call.TheVariants.{Broken, Passed, Synced, Written}

module _ (held bytes replaced : List ℕ) (at over : ℕ) (place : at ≤ length held) (least : over ≡ min (length bytes) (length held - at)) where
  abbrev all : List ℕ
  all = replaced ++ replaced_bytes held at (length bytes)

  abbrev after : List ℕ
  after = content_after_write held at bytes

  length_replaced : length (replaced_bytes held at (length bytes)) ≡ over
  length_replaced = length-take (length bytes) (drop at held) ∙ omega (arith, length-drop at held)

  length_all : length all - over ≡ length replaced
  length_all = omega (arith, length-append replaced (replaced_bytes held at (length bytes)), length_replaced)

  pub replaced_is : replaced_before over all ≡ replaced
  replaced_is = take_at replaced (replaced_bytes held at (length bytes)) (length all - over) (sym length_all)

  length_front : length (take at held) ≡ at
  length_front = length-take at held ∙ omega arith

  length_written : length (take at held ++ bytes) ≡ at + length bytes
  length_written = omega (arith, length-append (take at held) bytes, length_front)

  front : take at after ≡ take at held
  front = ap (take at) (append_assoc (take at held) bytes (drop (at + length bytes) held)) ∙ take_at (take at held) (bytes ++ drop (at + length bytes) held) at length_front

  kept : drop (length all - over) all ≡ replaced_bytes held at (length bytes)
  kept = drop_at replaced (replaced_bytes held at (length bytes)) (length all - over) (sym length_all)

  back : drop (at + length bytes) after ≡ drop (at + length bytes) held
  back = drop_at (take at held ++ bytes) (drop (at + length bytes) held) (at + length bytes) length_written

  whole : take at held ++ replaced_bytes held at (length bytes) ++ drop (at + length bytes) held ≡ held
  whole =
      append_assoc (take at held) (replaced_bytes held at (length bytes)) (drop (at + length bytes) held)
      ∙ ap (λ (l : List ℕ). take at held ++ (replaced_bytes held at (length bytes) ++ l)) (sym (drop-drop (length bytes) at held))
      ∙ ap (λ (l : List ℕ). take at held ++ l) (take-append-drop (length bytes) (drop at held))
      ∙ take-append-drop at held

  pub content_is : content_before at (length bytes) over all after ≡ held
  content_is =
      ap (λ (l : List ℕ). l ++ drop (length all - over) all ++ drop (at + length bytes) after) front
      ∙ ap (λ (l : List ℕ). take at held ++ l ++ drop (at + length bytes) after) kept
      ∙ ap (λ (l : List ℕ). take at held ++ replaced_bytes held at (length bytes) ++ l) back
      ∙ whole

  length_after : length after ≡ max (length held) (at + length bytes)
  length_after = omega (arith, length-append (take at held ++ bytes) (drop (at + length bytes) held), length_written, length-drop (at + length bytes) held)

  pub can_be_undone : CanBeUndone at (length bytes) over all after
  can_be_undone = record {
    within = omega (arith, length_after);
    fewer = omega arith;
    recorded = omega (arith, length-append replaced (replaced_bytes held at (length bytes)), length_replaced);
    grown = λ fewer. omega (arith, length_after);
  }

  pub can_return_written : (log : List Call) → CanReturn log replaced held → CanReturn (Written at (length bytes) over ∷ log) all after
  can_return_written log can =
      (can_be_undone, subst (λ (l : List ℕ). CanReturn log l (content_before at (length bytes) over all after)) (sym replaced_is) (subst (λ (l : List ℕ). CanReturn log replaced l) (sym content_is) can))

  pub pending_written : (log : List Call) → pending_after (Written at (length bytes) over ∷ log) all after ≡ after_write at (length bytes) (pending_after log replaced held)
  pending_written log = rw (replaced_is, content_is)

  pub past_written : (log : List Call) → pending_before (Written at (length bytes) over ∷ log) all after ≡ pending_after log replaced held ∷ pending_before log replaced held
  past_written log = rw (replaced_is, content_is)

-- the disk that has these bytes
abbrev pub seen : LogState → List ℕ → List ℕ → ℕ → DiskState
seen log replaced content room = record {
  content = content;
  pending = pending_after log.log replaced content;
  past = pending_before log.log replaced content;
  replaced = length replaced;
  room = room;
  most_calls = log.most;
  calls = log.calls;
}

abbrev state : List ℕ → Pending → List Pending → ℕ → ℕ → ℕ → Calls → DiskState
state content pending past replaced room most calls =
    record { content = content; pending = pending; past = past; replaced = replaced; room = room; most_calls = most; calls = calls }

same_state : (content : List ℕ) (pending pending' : Pending) (past past' : List Pending) (replaced replaced' room most : ℕ) (calls : Calls) → pending ≡ pending' → past ≡ past' → replaced ≡ replaced'
    → state content pending past replaced room most calls ≡ state content pending' past' replaced' room most calls
same_state content pending pending' past past' replaced replaced' room most calls a b d = rw (a, b, d)

-- after a write that was done
pub seen_written : (log log' : LogState) (held held' bytes replaced replaced' : List ℕ) (at over room : ℕ) (broken : Call) → at ≤ length held → over ≡ min (length bytes) (length held - at)
    → log' ≡ after_logged {T = Unit {0}} {E = Failed} log (Written at (length bytes) over) broken (Ok (tt {0})) → nat_lt log.calls.made log.most ≡ true
    → held' ≡ content_after_write held at bytes → replaced' ≡ replaced ++ replaced_bytes held at (length bytes)
    → seen log' replaced' held' room
    ≡ record (after_disk_call {T = Unit {0}} {E = Failed} (seen log replaced held room) (after_write at (length bytes) (seen log replaced held room).pending) (Ok (tt {0}))) {
      content = content_after_write held at bytes;
      replaced = length replaced + length (replaced_bytes held at (length bytes));
    }
seen_written log log' held held' bytes replaced replaced' at over room broken place least log_is recorded held_is replaced_is' =
    rw (log_is, held_is, replaced_is', recorded)
    (same_state _ _ _ _ _ _ _ _ _ _ (pending_written held bytes replaced at over place least log.log) (past_written held bytes replaced at over place least log.log) (length-append replaced (replaced_bytes held at (length bytes))))

pub can_return : (log log' : LogState) (held held' bytes replaced replaced' : List ℕ) (at over : ℕ) (broken : Call) → at ≤ length held → over ≡ min (length bytes) (length held - at)
    → log' ≡ after_logged {T = Unit {0}} {E = Failed} log (Written at (length bytes) over) broken (Ok (tt {0})) → nat_lt log.calls.made log.most ≡ true
    → held' ≡ content_after_write held at bytes → replaced' ≡ replaced ++ replaced_bytes held at (length bytes)
    → CanReturn log.log replaced held → CanReturn log'.log replaced' held'
can_return log log' held held' bytes replaced replaced' at over broken place least log_is recorded held_is replaced_is' can =
    rw (log_is, held_is, replaced_is', recorded) (can_return_written held bytes replaced at over place least log.log can)

-- a write leaves an image of what was pending before it, with its range in doubt too
still_torn : (at count over : ℕ) (replaced content synced : List ℕ) (dirty : List (ℕ × ℕ)) → CanBeUndone at count over replaced content
    → IsTorn dirty synced (content_before at count over replaced content) → IsTorn ((at, count) ∷ dirty) synced content
still_torn at count over replaced content synced dirty can torn = record {
  no_shorter = omega (arith, torn.no_shorter, size, can.within, can.fewer);
  same = λ place below clean. ⊎_elim (front place below clean) (back place below clean) (clean 0 (0, 0) (omega arith));
  no_longer = λ within.
      let shorter : length (content_before at count over replaced content) ≤ length synced = torn.no_longer (λ k d is. within (suc k) d (omega (arith, is))) in
      let reach : at + count ≤ length synced = within 0 (0, 0) (omega arith) in
      ⊎_elim (λ grown. omega (arith, can.grown grown, reach)) (λ same. omega (arith, size, shorter, same, can.fewer, can.within)) (cases_lt over count);
}
  where
    start : ℕ
    start = length replaced - over

    before : List ℕ
    before = content_before at count over replaced content

    kept_size : length (take at content ++ drop start replaced) ≡ at + over
    kept_size = omega (arith, length-append (take at content) (drop start replaced), length-take at content, length-drop start replaced, can.within, can.recorded)

    size : length (content_before at count over replaced content) ≡ at + over + (length content - (at + count))
    size = omega (arith, length-append (take at content ++ drop start replaced) (drop (at + count) content), kept_size, length-drop (at + count) content)

    old : (place : ℕ) → place < length synced → IsClean ((at, count) ∷ dirty) place → get_or (content_before at count over replaced content) place 0 ≡ get_or synced place 0
    old place below clean = torn.same place below (λ k d is. clean (suc k) d (omega (arith, is)))

    front : (place : ℕ) → place < length synced → IsClean ((at, count) ∷ dirty) place → place < at → get_or content place 0 ≡ get_or synced place 0
    front place below clean first =
        sym (get_or_append_left (take at content ++ drop start replaced) (drop (at + count) content) 0 place (omega (arith, first, kept_size))
        ∙ get_or_append_left (take at content) (drop start replaced) 0 place (omega (arith, first, length-take at content, can.within))
        ∙ get_or-take at content place 0 first)
        ∙ old place below clean

    back : (place : ℕ) → place < length synced → IsClean ((at, count) ∷ dirty) place → at + count ≤ place → get_or content place 0 ≡ get_or synced place 0
    back place below clean behind =
        let whole : over ≡ count = ⊎_elim (λ grown. absurd (omega (arith, can.grown grown, size, torn.no_shorter, below, behind, grown))) (λ same. omega (arith, same, can.fewer)) (cases_lt over count) in
        let again : at + count + (place - (at + over)) ≡ place = omega (arith, behind, whole) in
        sym (get_or-append_right (take at content ++ drop start replaced) (drop (at + count) content) (at + over) place 0 kept_size (omega (arith, behind, can.fewer))
        ∙ get_or-drop (at + count) content (place - (at + over)) 0
        ∙ ap (λ (k : ℕ). get_or content k 0) again)
        ∙ old place below clean

torn_more : (range : ℕ × ℕ) (dirty : List (ℕ × ℕ)) (synced image : List ℕ) → IsTorn dirty synced image → IsTorn (range ∷ dirty) synced image
torn_more range dirty synced image torn = record {
  no_shorter = torn.no_shorter;
  same = λ place below clean. torn.same place below (λ k d is. clean (suc k) d (omega (arith, is)));
  no_longer = λ within. torn.no_longer (λ k d is. within (suc k) d (omega (arith, is)));
}

itself : (bytes : List ℕ) → IsTorn [] bytes bytes
itself bytes = record { no_shorter = omega arith; same = λ place below clean. refl; no_longer = λ within. omega arith }

-- what a read gives is one of the images that a crash may leave
pub content_is_image : (log : List Call) (replaced content : List ℕ) → CanReturn log replaced content → IsTorn (ranges_written log) (content_synced log replaced content) content
content_is_image [] replaced content can = itself content
content_is_image (Passed ∷ log) replaced content can = content_is_image log replaced content can
content_is_image (Broken at count ∷ log) replaced content can = torn_more (at, count) (ranges_written log) (content_synced log replaced content) content (content_is_image log replaced content can)
content_is_image (Written at count over ∷ log) replaced content can =
    still_torn at count over replaced content (content_synced log (replaced_before over replaced) (content_before at count over replaced content)) (ranges_written log) can.0
    (content_is_image log (replaced_before over replaced) (content_before at count over replaced content) can.1)
content_is_image (Synced ∷ log) replaced content can = itself content
