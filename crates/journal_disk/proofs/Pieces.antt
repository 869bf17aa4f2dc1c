-- What is read of a disk, call after call, and of its bytes.
use Rattle.std.proofs.Common.{◌≡◌, ◌≢◌, ◌⊎◌, inl, inr, ⊎_elim, ℕ, ◌+◌, ◌-◌, ◌^◌, ◌<◌, ◌≤◌, min, List, [], ◌∷◌, ◌++◌, length, take, drop, Option, None, Some, IfSome, IfNone, refl, sym, ap, subst, ◌∙◌, append_assoc, append-nil, length-append, length-take, length-drop, take-append-drop, arith}
use Rattle.std.proofs.lemmas.Bool.{cases_eq, cases_lt}
use Rattle.std.proofs.lemmas.List.{drop-drop, drop-take, drop_all, drop_at, nil_from_length, take-append-le, take-take, take_all, take_at, take_min}
use borrow.Rule.Slice.PartMut.{post_of, put_mid}
use Rattle.acl_ports.specs.Crash.{Elapses, Pending, StaysPending}
use Rattle.acl_ports.specs.Disk.{IsReadAt, Stays}
use Rattle.entry_bytes.proofs.Once.{number_length, number_once}
use Rattle.entry_bytes.specs.Faults.{NoneBegins}
use Rattle.entry_bytes.specs.Spelling.{IsNumber, long_text, number_bytes}
use Rattle.journal_bytes.specs.Files.{most_bytes}
use Rattle.journal_disk.proofs.Steps.{untold_again}
use Rattle.journal_disk.specs.Read.{BeginsAs, BeginsBadly, BeginsClosed, BeginsWith, IsWithin, OnlyReads}
use Rattle.journal_disk.specs.declared.reading.Front.{Front}
use Rattle.journal_disk.specs.declared.reading.Front.TheVariants.{Closed, Cut, Open}

stays_again : (first mid last : Option (List ℕ)) → Stays first mid → Stays mid last → Stays first last
stays_again None mid last a b = tt
stays_again (Some held) mid last a b = let next : Stays (Some held) last = subst (λ (m : Option (List ℕ)). Stays m last) a b in next

module _ {D : Type 0} (content : D → Option (List ℕ)) (moment : D → ℕ) (pending : D → ℕ → Option Pending) where
  none_self : (o : Option (List ℕ)) → IfNone o (o ≡ None)
  none_self None = refl
  none_self (Some held) = tt

  stays_self : (o : Option (List ℕ)) → Stays o o
  stays_self None = tt
  stays_self (Some held) = refl

  pub quiet_none : (disk : D) → OnlyReads content moment pending disk disk
  quiet_none disk = record {
    kept = stays_self (content disk);
    untold = none_self (content disk);
    later = omega arith;
    earlier = λ time before. refl;
    since = λ time from to. let same : time ≡ moment disk = omega arith in ap (pending disk) same;
  }

  pub quiet_one : (old new : D) → Stays (content old) (content new) → IfNone (content old) (content new ≡ None) → Elapses (moment old) (moment new) (pending old) (pending new) StaysPending → OnlyReads content moment pending old new
  quiet_one old new kept untold time = record {
    kept = kept;
    untold = untold;
    later = time.later;
    earlier = time.kept;
    since = λ t from to. at t from to (cases_eq t (moment old));
  }
    where
      at : (t : ℕ) → moment old ≤ t → t ≤ moment new → (t ≡ moment old) ⊎ (t ≢ moment old) → pending new t ≡ pending old (moment old)
      at t from to (inl same) = ap (pending new) same ∙ time.kept (moment old) (omega arith)
      at t from to (inr other) = let same : t ≡ moment new = omega (arith, time.tick, from, to, other) in ap (pending new) same ∙ time.step

  pub quiet_again : (old mid new : D) → OnlyReads content moment pending old mid → OnlyReads content moment pending mid new → OnlyReads content moment pending old new
  quiet_again old mid new first second = record {
    kept = stays_again (content old) (content mid) (content new) first.kept second.kept;
    untold = untold_again (content old) (content mid) (content new) first.untold second.untold;
    later = omega (arith, first.later, second.later);
    earlier = λ t before. second.earlier t (omega (arith, before, first.later)) ∙ first.earlier t before;
    since = λ t from to. at t from to (cases_lt t (moment mid));
  }
    where
      at : (t : ℕ) → moment old ≤ t → t ≤ moment new → (t < moment mid) ⊎ (moment mid ≤ t) → pending new t ≡ pending old (moment old)
      at t from to (inl before) = second.earlier t (omega (arith, before)) ∙ first.since t from (omega (arith, before))
      at t from to (inr after) = second.since t after to ∙ first.since (moment mid) first.later (omega arith)

-- the front of a list in two parts
take-add : (n m : ℕ) (xs : List ℕ) → take (n + m) xs ≡ take n xs ++ take m (drop n xs)
take-add n m xs =
    let order : n ≤ n + m = omega arith in
    sym (take-append-drop n (take (n + m) xs)) ∙ ap (λ x. x ++ drop n (take (n + m) xs)) (take-take n (n + m) xs order) ∙ ap (λ x. take n xs ++ x) (drop-take n m xs)

-- bytes that are read behind others
pub read_more : (held into next : List ℕ) (at done count : ℕ) → done ≤ length into → IsReadAt held at into done → IsReadAt held (at + done) next count
    → IsReadAt held at (take done into ++ next) (done + count)
read_more held into next at done count within first second = (
  omega (arith, length-drop at held, length-drop (at + done) held, first.0, second.0),
  take-add done count (take done into ++ next)
      ∙ ap (λ x. x ++ take count (drop done (take done into ++ next))) (take_at (take done into) next done long)
      ∙ ap (λ x. take done into ++ take count x) (drop_at (take done into) next done long)
      ∙ ap (λ x. x ++ take count next) first.1
      ∙ ap (λ x. take done (drop at held) ++ x) second.1
      ∙ ap (λ x. take done (drop at held) ++ take count x) (sym (drop-drop done at held))
      ∙ sym (take-add done count (drop at held)),
)
  where
    long : length (take done into) ≡ done
    long = omega (arith, length-take done into, within)

pub under : (content : Option (List ℕ)) (P Q : List ℕ → Type 0) → ((held : List ℕ) → P held → Q held) → IfSome content P → IfSome content Q
under None P Q f held = tt
under (Some bytes) P Q f held = f bytes held

-- as the rest of a slice
pub read_rest : (held into next : List ℕ) (at done count : ℕ) → done ≤ length into → count ≤ length next → IsReadAt held at into done → IsReadAt held (at + done) next count
    → IsReadAt held at (put_mid done (length into - done) into next) (done + count)
read_rest held into next at done count within few first second =
    read_more held into (next ++ post_of done (length into - done) into) at done count within first
    (second.0, take-append-le count next (post_of done (length into - done) into) few ∙ second.1)

-- the whole front that was asked for
pub read_front : (held into : List ℕ) (at count size : ℕ) → IsReadAt held at into count → count ≡ min size (length (drop at held)) → take count into ≡ take size (drop at held)
read_front held into at count size read is = read.1 ∙ ap (λ (k : ℕ). take k (drop at held)) is ∙ take_min size (drop at held)

-- what the first bytes begin with
whole_of : (rest front : List ℕ) → front ≡ take 5 rest → rest ≡ front ++ drop 5 rest
whole_of rest front is = sym (take-append-drop 5 rest) ∙ ap (λ x. x ++ drop 5 rest) (sym is)

first_four : (rest behind : List ℕ) → 1 ∷ behind ≡ take 5 rest → behind ≡ take 4 (behind ++ drop 5 rest)
first_four rest behind is = at (cases_lt (length rest) 5)
  where
    size : length behind + 1 ≡ min 5 (length rest)
    size = omega (arith, ap length is, length-take 5 rest)

    at : (length rest < 5) ⊎ (5 ≤ length rest) → behind ≡ take 4 (behind ++ drop 5 rest)
    at (inl short) =
        let none : drop 5 rest ≡ [] = drop_all 5 rest (omega arith) in
        let few : length (behind ++ []) ≤ 4 = omega (arith, length-append behind [], size, short) in
        sym (append-nil behind) ∙ sym (take_all 4 (behind ++ []) few) ∙ ap (λ x. take 4 (behind ++ x)) (sym none)
    at (inr long) =
        let four : length behind ≡ 4 = omega (arith, size, long) in
        sym (take_at behind (drop 5 rest) 4 four)

pub begins_longer : (rest front : List ℕ) (found : Front) → front ≡ take 5 rest → BeginsAs front found → BeginsAs rest found
begins_longer rest front Closed is (gate, behind, closed, same) = (gate, behind ++ drop 5 rest, closed, whole_of rest front is ∙ ap (λ x. x ++ drop 5 rest) same)
begins_longer rest front (Open size) is (behind, fits, same) =
    (behind ++ drop 5 rest, fits, whole_of rest front is ∙ ap (λ x. x ++ drop 5 rest) same ∙ ap (λ x. 1 ∷ x) (append_assoc (number_bytes size) behind (drop 5 rest)))
begins_longer rest front Cut is (inl none) = inl (nil_from_length rest (omega (arith, ap length (sym is ∙ none), length-take 5 rest)))
begins_longer rest front Cut is (inr (behind, same, absent)) =
    inr (
      behind ++ drop 5 rest,
      whole_of rest front is ∙ ap (λ x. x ++ drop 5 rest) same,
      λ value more fits begins.
          absent value [] fits
          (first_four rest behind (sym same ∙ is) ∙ ap (take 4) begins ∙ take_at (number_bytes value) more 4 (number_length value) ∙ sym (append-nil (number_bytes value))),
    )

-- a record with a payload of so many bytes
module _ (rest behind : List ℕ) (at size : ℕ) (fits : IsNumber size) (is : rest ≡ 1 ∷ (number_bytes size ++ behind)) where
  pub payload_place : (held : List ℕ) → rest ≡ drop at held → drop (at + 5) held ≡ behind
  payload_place held same =
      sym (drop-drop 5 at held)
      ∙ ap (drop 5) (sym same ∙ is)
      ∙ drop_at (1 ∷ number_bytes size) behind 5 (omega (arith, number_length size))

  pub begins_with : (payload more : List ℕ) → length payload ≡ size → behind ≡ payload ++ more → IsWithin at payload → BeginsWith rest at payload
  begins_with payload more long same within = record {
    behind = more;
    is =
        is
        ∙ ap (λ x. 1 ∷ (number_bytes size ++ x)) same
        ∙ ap (λ x. 1 ∷ x) (sym (append_assoc (number_bytes size) payload more))
        ∙ ap (λ (k : ℕ). 1 ∷ (number_bytes k ++ payload ++ more)) (sym long);
    short = omega (arith, long, fits);
    within = within;
  }

  pub begins_badly : ((payload more : List ℕ) → length payload ≡ size → behind ≡ payload ++ more → IsWithin at payload → ⊥) → BeginsBadly rest at
  begins_badly none = inr (
    number_bytes size ++ behind,
    is,
    λ payload more short within same.
        let parts = number_once size (length payload) behind (payload ++ more) fits short (same ∙ append_assoc (number_bytes (length payload)) payload more) in
        none payload more (sym parts.0) parts.1 within,
  )

pub closed_front : (bytes : List ℕ) → BeginsAs bytes Closed → BeginsClosed bytes
closed_front bytes (gate, behind, closed, is) = record { gate = gate; behind = behind; closed = closed; is = is }

pub cut_front : (bytes : List ℕ) (at : ℕ) → BeginsAs bytes Cut → BeginsBadly bytes at
cut_front bytes at (inl none) = inl none
cut_front bytes at (inr (behind, is, absent)) = inr (
  behind,
  is,
  λ payload more short within same.
      absent (length payload) (payload ++ more) short (same ∙ append_assoc (number_bytes (length payload)) payload more),
)

both_told : (content : Option (List ℕ)) (P Q R : List ℕ → Type 0) → ((held : List ℕ) → P held → Q held → R held) → IfSome content P → IfSome content Q → IfSome content R
both_told None P Q R f p q = tt
both_told (Some held) P Q R f p q = f held p q

-- what stands at a gate, from the bytes that were read there
pub front_found : (content : Option (List ℕ)) (into : List ℕ) (at count : ℕ) (found : Front) → IfSome content (λ held. IsReadAt held at into count) → IfSome content (λ held. count ≡ min 5 (length (drop at held)))
    → BeginsAs (take count into) found → IfSome content (λ held. BeginsAs (drop at held) found)
front_found content into at count found given whole front =
    both_told content _ _ (λ held. BeginsAs (drop at held) found) (λ held read is. begins_longer (drop at held) (take count into) found (read_front held into at count 5 read is) front) given whole

-- a payload that does not fit
pub too_far : (held : List ℕ) (total at size : ℕ) → total ≡ length held → BeginsAs (drop at held) (Open size) → (total < at + 5 + size) ⊎ (most_bytes ≤ at + 5 + size) → BeginsBadly (drop at held) at
too_far held total at size whole (behind, fits, is) far =
    begins_badly (drop at held) behind at size fits is (λ payload more long same within. none payload more long same within far)
  where
    rest_size : length (drop at held) ≡ 5 + length behind
    rest_size = omega (arith, ap length is, length-append (number_bytes size) behind, number_length size)

    none : (payload more : List ℕ) → length payload ≡ size → behind ≡ payload ++ more → IsWithin at payload → (total < at + 5 + size) ⊎ (most_bytes ≤ at + 5 + size) → ⊥
    none payload more long same within (inl short) = omega (arith, rest_size, length-drop at held, ap length same, length-append payload more, long, short, whole)
    none payload more long same within (inr large) = omega (arith, long, within, large)

-- a payload that is cut short
pub cut_payload : (held : List ℕ) (at size : ℕ) → BeginsAs (drop at held) (Open size) → length (drop (at + 5) held) < size → BeginsBadly (drop at held) at
cut_payload held at size (behind, fits, is) short =
    begins_badly (drop at held) behind at size fits is (λ payload more long same within.
    omega (arith, ap length (payload_place (drop at held) behind at size fits is held refl), ap length same, length-append payload more, long, short))

pub whole_payload : (held payload : List ℕ) (at size : ℕ) → BeginsAs (drop at held) (Open size) → drop (at + 5) held ≡ payload ++ drop size (drop (at + 5) held) → length payload ≡ size → IsWithin at payload → BeginsWith (drop at held) at payload
whole_payload held payload at size (behind, fits, is) same long within =
    begins_with (drop at held) behind at size fits is payload (drop size (drop (at + 5) held)) long (sym (payload_place (drop at held) behind at size fits is held refl) ∙ same) within
