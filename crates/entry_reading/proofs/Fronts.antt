-- Faults of the fields before the limits, and of those behind them.
use Rattle.std.proofs.Common.{◌≡◌, ℕ, List, [], ◌++◌, inl, inr, refl}
use Rattle.entry_bytes.specs.Faults.{EntryFields, LimitFields}
use Rattle.entry_bytes.specs.Spelling.{IsHost, IsNumber, IsUser, number_bytes, short_text}
use Rattle.entry_reading.specs.Faults.{IsAbsent}
use Rattle.entry_reading.specs.Fronts.{IsFront, front_bytes}
use Rattle.entry_reading.specs.declared.front.Front.{Front}

pub no_caller : (bytes bad : List ℕ) → IsAbsent number_bytes IsNumber bytes bad → EntryFields bytes bad
unfolding EntryFields
no_caller bytes bad absent = inl absent

pub no_number : (bytes behind : List ℕ) (caller : ℕ) → IsNumber caller → bytes ≡ number_bytes caller ++ behind
    → (bad : List ℕ) → IsAbsent number_bytes IsNumber behind bad → EntryFields bytes bad
unfolding EntryFields
no_number bytes behind caller is found bad absent = inr (caller, behind, is, found, inl absent)

pub no_user : (bytes one two : List ℕ) (caller number : ℕ) → IsNumber caller → bytes ≡ number_bytes caller ++ one → IsNumber number → one ≡ number_bytes number ++ two
    → (bad : List ℕ) → IsAbsent short_text IsUser two bad → EntryFields bytes bad
unfolding EntryFields
no_user bytes one two caller number is found is' found' bad absent = inr (caller, one, is, found, inr (number, two, is', found', inl absent))

pub no_host : (bytes one two three : List ℕ) (caller number : ℕ) (user : List ℕ) → IsNumber caller → bytes ≡ number_bytes caller ++ one → IsNumber number → one ≡ number_bytes number ++ two
    → IsUser user → two ≡ short_text user ++ three → (bad : List ℕ) → IsAbsent short_text IsHost three bad → EntryFields bytes bad
unfolding EntryFields
no_host bytes one two three caller number user is found is' found' is'' found'' bad absent =
    inr (caller, one, is, found, inr (number, two, is', found', inr (user, three, is'', found'', inl absent)))

pub no_count : (bytes one two three four : List ℕ) (caller number : ℕ) (user host : List ℕ) → IsNumber caller → bytes ≡ number_bytes caller ++ one → IsNumber number
    → one ≡ number_bytes number ++ two → IsUser user → two ≡ short_text user ++ three → IsHost host → three ≡ short_text host ++ four
    → (bad : List ℕ) → IsAbsent number_bytes IsNumber four bad → EntryFields bytes bad
unfolding EntryFields
no_count bytes one two three four caller number user host is found is' found' is'' found'' is''' found''' bad absent =
    inr (caller, one, is, found, inr (number, two, is', found', inr (user, three, is'', found'', inr (host, four, is''', found''', inl absent))))

-- the fault stands behind the front
pub behind_front : (front : Front) (bytes rest : List ℕ) → bytes ≡ front_bytes front rest → IsFront front
    → (bad : List ℕ) → LimitFields front.count [] rest bad → EntryFields bytes bad
unfolding EntryFields
behind_front front bytes rest found is bad fields =
    let four : List ℕ = number_bytes front.count ++ rest in
    let three : List ℕ = short_text front.by.host ++ four in
    let two : List ℕ = short_text front.by.user ++ three in
    let one : List ℕ = number_bytes front.number ++ two in
    inr (front.caller.0, one, is.caller, found, inr (front.number, two, is.number, refl, inr (front.by.user, three, is.user, refl, inr (front.by.host, four, is.host, refl, inr (front.count, rest, is.count, refl, fields)))))
