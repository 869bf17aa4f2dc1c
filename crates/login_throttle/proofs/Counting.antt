-- The stamp of an account agrees with the count of its wrong passwords.
use Rattle.std.proofs.Common.{◌≡◌, ◌≢◌, ◌∙◌, refl, sym, ap, subst, ℕ, zero, suc, ◌+◌, ◌%◌, ◌<◌, ◌==◌, ℤ, ◌≤ℤ◌, Bool, true, false, not, ◌&&◌, inl, inr, if◌then◌else◌, Option, Some, None, List, [], ◌∷◌, add-one, arith}
use Rattle.std.proofs.Math.Nat.{suc-mod, mod_self, mod-eq_of_lt, mod-lt, zero-mod}
use Rattle.std.proofs.lemmas.Bool.{cases_eq, eq-eqb, ne_eqb, true≢false}
use Rattle.std.proofs.lemmas.Int.{ints}
use Rattle.acl_names.specs.declared.policy.Policy.{Policy}
use Rattle.login_throttle.specs.declared.stamp.Stamp.{Stamp}
use Rattle.login_throttle.specs.declared.tracking.Tried.{Tried}
use Rattle.login_throttle.specs.declared.tracking.Tried.TheVariants.{Open, Wrong, Blocked}
use Rattle.login_throttle.specs.Steps.{stamp_after, with_failure}
use Rattle.login_throttle.specs.History.{Event, Answered, Cleared, ShowsCount, blocking_failure, counted_stamp, failure_count, last_failure}
use Rattle.login_throttle.specs.Stamp.{fresh}
use Rattle.login_throttle.specs.Tracking.{answer_of, has_ended, is_before, is_blocked, is_tracked, opens_at, seconds_until, stamp_at}

next_rest : (count n : ℕ) → (count + 1) % n ≡ (count % n + 1) % n
next_rest count n = simp (add-one) (suc-mod count n)

-- one more wrong password uses up the attempts
rest_wraps : (count n : ℕ) → count % n + 1 ≡ n → (count + 1) % n ≡ 0
rest_wraps count n last = next_rest count n ∙ ap (λ k. k % n) last ∙ mod_self n

-- or leaves some
rest_grows : (count n : ℕ) → 0 < n → count % n + 1 ≢ n → (count + 1) % n ≡ count % n + 1
rest_grows count n some more =
    let below : count % n < n = mod-lt count some in
    let less : count % n + 1 < n = omega (arith, below, more) in
    next_rest count n ∙ mod-eq_of_lt less

-- a block that has ended stays so
stays_ended : (earlier later : ℤ) (opens : Option ℤ) → earlier ≤ℤ later → is_before earlier opens ≡ false → is_before later opens ≡ false
stays_ended earlier later None order ended = ended
stays_ended earlier later (Some opens) order ended = grind (arith, ints)

and_stays : (t x y : Bool) → (x ≡ false → y ≡ false) → (t && x) ≡ false → (t && y) ≡ false
and_stays true x y stays fails = stays fails
and_stays false x y stays fails = refl

-- an account that is open stays so
stays_open : (policy : Policy) (block : Option ℤ) (earlier later : ℤ) → earlier ≤ℤ later →
    is_blocked policy block earlier ≡ false → is_blocked policy block later ≡ false
stays_open policy None earlier later order is_open = refl
stays_open policy (Some since) earlier later order is_open =
    and_stays (is_tracked policy) (is_before earlier (opens_at policy.days since)) (is_before later (opens_at policy.days since))
    (stays_ended earlier later (opens_at policy.days since) order) is_open

-- the stamp with these failures that blocks no account
abbrev pub rest_of : ℕ → Stamp
rest_of failures = record { failures = failures; blocked_at = None }

-- that of an account that is blocked
abbrev pub blocked_by : Policy → Option ℤ → Stamp
blocked_by policy block = record { failures = policy.attempts; blocked_at = block }

ended_or_not : (t before : Bool) (rest : ℕ) (stamp : Stamp) → t ≡ true → rest ≡ 0 →
    (if t && not before then fresh else stamp) ≡ (if t && before then stamp else rest_of rest)
ended_or_not true true rest stamp is none = refl
ended_or_not true false rest stamp is none = ap rest_of (sym none)
ended_or_not false before rest stamp is none = absurd (true≢false (sym is))

-- the stamp of a block, while it lasts and once it has ended
block_shows : (policy : Policy) (block : Option ℤ) (since moment : ℤ) (rest : ℕ) → is_tracked policy ≡ true → block ≡ Some since → rest ≡ 0 →
    stamp_at policy (blocked_by policy block) moment ≡ (if is_blocked policy block moment then blocked_by policy block else rest_of rest)
block_shows policy None since moment rest tracked is none = cc
block_shows policy (Some since') since moment rest tracked is none =
    ended_or_not (is_tracked policy) (is_before moment (opens_at policy.days since')) rest (blocked_by policy (Some since')) tracked none

-- an account is blocked only where no failure is left over
no_rest : (some : Bool) (rest : ℕ) (last : Option ℤ) (since : ℤ) → (if some && (rest == 0) then last else None) ≡ Some since → rest ≡ 0
no_rest some rest last since is =
    elim (cases_eq rest 0) [
      | inl none ↦ none
      | inr other ↦ grind (arith, ne_eqb rest 0 other)
    ]

-- attempts are counted only where their number is not 0
pub some_attempts : (attempts : ℕ) (locks : Bool) → (not (attempts == 0) && locks) ≡ true → 0 < attempts
some_attempts zero locks tracked = absurd (true≢false (sym tracked))
some_attempts (suc attempts) locks tracked = omega arith

-- one wrong password more, where some attempts are left and where none is
failure_shows : (policy : Policy) (count : ℕ) (last moment : ℤ) → is_tracked policy ≡ true →
    stamp_at policy (with_failure policy (rest_of (count % policy.attempts)) last) moment ≡
    (let block : Option ℤ = (if not (count + 1 == 0) && ((count + 1) % policy.attempts == 0) then Some last else None) in
    if is_blocked policy block moment then blocked_by policy block else rest_of ((count + 1) % policy.attempts))
failure_shows policy count last moment tracked =
    elim (cases_eq (count % policy.attempts + 1) policy.attempts) [
      | inl none_left ↦
          let wraps : (count + 1) % policy.attempts ≡ 0 = rest_wraps count policy.attempts none_left in
          rw (wraps, ne_eqb (count + 1) 0 (λ is. omega (arith, is)), none_left, eq-eqb policy.attempts policy.attempts refl)
          (block_shows policy (Some last) last moment 0 tracked refl refl)
      | inr some_left ↦
          let grows : (count + 1) % policy.attempts ≡ count % policy.attempts + 1 =
          rest_grows count policy.attempts (some_attempts policy.attempts _ tracked) some_left in
          rw (
            grows,
            ne_eqb (count + 1) 0 (λ is. omega (arith, is)),
            ne_eqb (count % policy.attempts + 1) 0 (λ is. omega (arith, is)),
            ne_eqb (count % policy.attempts + 1) policy.attempts some_left,
          ) refl
    ]

-- an account that is not blocked answers to the password
pub open_answer : (policy : Policy) (block : Option ℤ) (moment : ℤ) (right : Bool) → is_blocked policy block moment ≡ false →
    answer_of policy block moment right ≡ (if right then Open else Wrong)
open_answer policy None moment right is_open = refl
open_answer policy (Some since) moment right is_open = rw is_open refl

-- and one that is blocked does not
blocked_answer : (policy : Policy) (block : Option ℤ) (moment : ℤ) (right : Bool) → is_blocked policy block moment ≡ true →
    (since : ℤ) × (left : Option ℕ) × (block ≡ Some since) × (answer_of policy block moment right ≡ Blocked left)
blocked_answer policy None moment right shut = absurd (true≢false (sym shut))
blocked_answer policy (Some since) moment right shut =
    (since, seconds_until (opens_at policy.days since) moment, refl, rw shut refl)

-- what an answer makes of the stamp that the count shows is what the count shows after it
step_shows : (policy : Policy) (past : List Event) (earlier moment : ℤ) (right shut : Bool) → is_tracked policy ≡ true →
    earlier ≤ℤ moment → is_blocked policy (blocking_failure policy past) earlier ≡ shut →
    stamp_at policy (stamp_after policy (if shut then blocked_by policy (blocking_failure policy past) else rest_of (failure_count past % policy.attempts)) earlier
    (answer_of policy (blocking_failure policy past) earlier right)) moment
    ≡ counted_stamp policy (Answered earlier (answer_of policy (blocking_failure policy past) earlier right) ∷ past) moment
step_shows policy past earlier moment right true tracked order is_shut =
    let block : (since : ℤ) × (left : Option ℕ) × (blocking_failure policy past ≡ Some since) ×
    (answer_of policy (blocking_failure policy past) earlier right ≡ Blocked left)
    = blocked_answer policy (blocking_failure policy past) earlier right is_shut in
    let P : Tried → Type 0 = λ answer. stamp_at policy (stamp_after policy (blocked_by policy (blocking_failure policy past)) earlier answer) moment
    ≡ counted_stamp policy (Answered earlier answer ∷ past) moment in
    subst P (sym block.3)
    (block_shows policy (blocking_failure policy past) block.0 moment (failure_count past % policy.attempts) tracked block.2
    (no_rest (not (failure_count past == 0)) (failure_count past % policy.attempts) (last_failure past) block.0 block.2))
step_shows policy past earlier moment true false tracked order is_open =
    let P : Tried → Type 0 = λ answer. stamp_at policy (stamp_after policy (rest_of (failure_count past % policy.attempts)) earlier answer) moment
    ≡ counted_stamp policy (Answered earlier answer ∷ past) moment in
    subst P (sym (open_answer policy (blocking_failure policy past) earlier true is_open))
    (rw (stays_open policy (blocking_failure policy past) earlier moment order is_open) refl)
step_shows policy past earlier moment false false tracked order is_open =
    let P : Tried → Type 0 = λ answer. stamp_at policy (stamp_after policy (rest_of (failure_count past % policy.attempts)) earlier answer) moment
    ≡ counted_stamp policy (Answered earlier answer ∷ past) moment in
    subst P (sym (open_answer policy (blocking_failure policy past) earlier false is_open))
    (rw tracked (failure_shows policy (failure_count past) earlier moment tracked))

-- where wrong passwords are not counted, no account is blocked
pub untracked_open : (policy : Policy) (block : Option ℤ) (moment : ℤ) → is_tracked policy ≡ false → is_blocked policy block moment ≡ false
untracked_open policy None moment untracked = refl
untracked_open policy (Some since) moment untracked = rw untracked refl

-- a block that has ended blocks no more
ended_open : (policy : Policy) (block : Option ℤ) (moment : ℤ) → has_ended policy block moment ≡ true → is_blocked policy block moment ≡ false
ended_open policy None moment ended = refl
ended_open policy (Some since) moment ended = both (is_tracked policy) (is_before moment (opens_at policy.days since)) ended
  where
    both : (t before : Bool) → (t && not before) ≡ true → (t && before) ≡ false
    both true true ended = sym ended
    both true false ended = refl
    both false before ended = refl

-- a stamp with these failures and this block answers as the block does that the count shows
same_answer : (policy : Policy) (failures rest : ℕ) (held block : Option ℤ) (moment : ℤ) (right ended shut : Bool) →
    has_ended policy held moment ≡ ended → is_blocked policy block moment ≡ shut →
    (if ended then fresh else (record { failures = failures; blocked_at = held })) ≡ (if shut then blocked_by policy block else rest_of rest) →
    answer_of policy held moment right ≡ answer_of policy block moment right
same_answer policy failures rest held block moment right false true is_held is_shut same =
    ap (λ block. answer_of policy block moment right) (ap (λ (stamp : Stamp). stamp.blocked_at) same)
same_answer policy failures rest held block moment right false false is_held is_open same =
    ap (λ block. answer_of policy block moment right) (ap (λ (stamp : Stamp). stamp.blocked_at) same)
    ∙ sym (open_answer policy block moment right is_open)
same_answer policy failures rest held block moment right true true is_held is_shut same =
    let P : Option ℤ → Type 0 = λ block. is_blocked policy block moment ≡ true in
    absurd (true≢false (sym (subst P (sym (ap (λ (stamp : Stamp). stamp.blocked_at) same)) is_shut)))
same_answer policy failures rest held block moment right true false is_held is_open same =
    open_answer policy held moment right (ended_open policy held moment is_held) ∙ sym (open_answer policy block moment right is_open)

-- the answer by a stamp that shows the count is the answer by the count
pub shown_answer : (policy : Policy) (past : List Event) (stamp : Stamp) (moment : ℤ) (right : Bool) → ShowsCount policy past stamp moment →
    answer_of policy stamp.blocked_at moment right ≡ answer_of policy (blocking_failure policy past) moment right
shown_answer policy past stamp moment right shown =
    same_answer policy stamp.failures (failure_count past % policy.attempts) stamp.blocked_at (blocking_failure policy past) moment right
    (has_ended policy stamp.blocked_at moment) (is_blocked policy (blocking_failure policy past) moment) refl refl shown

-- and what the attempt makes of it shows the count with this event more
pub shown_after : (policy : Policy) (past : List Event) (stamp : Stamp) (moment later : ℤ) (right : Bool) (answer : Tried) (made : Stamp) →
    is_tracked policy ≡ true → moment ≤ℤ later → ShowsCount policy past stamp moment →
    answer ≡ answer_of policy stamp.blocked_at moment right → made ≡ stamp_after policy (stamp_at policy stamp moment) moment answer →
    ShowsCount policy (Answered moment answer ∷ past) made later
shown_after policy past stamp moment later right answer made tracked order shown answered is =
    let P : Tried → Type 0 = λ a. stamp_at policy (stamp_after policy (stamp_at policy stamp moment) moment a) later
    ≡ counted_stamp policy (Answered moment a ∷ past) later in
    ap (λ stamp. stamp_at policy stamp later) is
    ∙ subst P (sym (answered ∙ shown_answer policy past stamp moment right shown))
    (ap (λ stamp. stamp_at policy (stamp_after policy stamp moment (answer_of policy (blocking_failure policy past) moment right)) later) shown
    ∙ step_shows policy past moment later right (is_blocked policy (blocking_failure policy past) moment) tracked order refl)

-- a fresh stamp shows that none is counted
pub fresh_shows : (policy : Policy) (moment : ℤ) → ShowsCount policy [] fresh moment
fresh_shows policy moment = ap rest_of (sym (zero-mod policy.attempts))

pub cleared_shows : (policy : Policy) (past : List Event) (moment : ℤ) → ShowsCount policy (Cleared ∷ past) fresh moment
cleared_shows policy past moment = ap rest_of (sym (zero-mod policy.attempts))
