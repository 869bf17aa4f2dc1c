-- Two readings of one file: the records of the one are those in front of the other's.
use Rattle.std.proofs.Common.{◌≡◌, ℕ, ◌+◌, ◌^◌, ◌<◌, ◌≤◌, List, [], ◌∷◌, ◌++◌, length, refl, sym, ap, subst, ◌∙◌, append_assoc, append-nil, arith}
use Rattle.std.proofs.lemmas.List.{append_cancel_left}
use Rattle.std.proofs.lemmas.List.Sums.{sum_by-cons}
use Rattle.std.specs.List.{AllByRecursion, flat_map, sum_by}
use Rattle.acl_model.specs.State.{State}
use Rattle.acl_stmt.specs.declared.entry.Entry.{Entry}
use Rattle.entry_bytes.proofs.Once.{long_once}
use Rattle.entry_bytes.proofs.Parts.{entry_once, with_behind}
use Rattle.entry_bytes.specs.Spelling.{HasBytes, bytes_of}
use Rattle.journal_bytes.proofs.Sizes.{behind_header, record_size, sum_of}
use Rattle.journal_bytes.specs.Files.{IsHistory, before_gate, header, payload_bytes, record_bytes}

same_entry : (a b : Entry) → HasBytes a → HasBytes b → bytes_of a ≡ bytes_of b → a ≡ b
same_entry a b fits fits' same =
    (entry_once a b [] [] fits fits' (sym (with_behind a []) ∙ append-nil (bytes_of a) ∙ same ∙ sym (append-nil (bytes_of b)) ∙ with_behind b [])).0

pub record_once : (a b : Entry) (x y : List ℕ) → HasBytes a → HasBytes b → length (bytes_of a) < 2 ^ 32 → length (bytes_of b) < 2 ^ 32
    → record_bytes a ++ x ≡ record_bytes b ++ y → (a ≡ b) × (x ≡ y)
record_once a b x y fits fits' short short' same =
    let payload : payload_bytes a ++ x ≡ payload_bytes b ++ y = cc in
    let parts = long_once (bytes_of a) (bytes_of b) x y short short' payload in
    (same_entry a b fits fits' parts.0, parts.1)

-- the entries are the others and more, whose records are at the front of what is left behind the others
pub record Extends (entries others : List Entry) (x y : List ℕ) : Type 0 where
  pub entry : Entry
  pub more : List Entry
  pub list : entries ≡ others ++ entry ∷ more
  pub behind : List ℕ
  pub rest : y ≡ record_bytes entry ++ behind

-- one of the two has more entries, or both have the same
pub data Compared (entries others : List Entry) (x y : List ℕ) : Type 0 where
  Same : entries ≡ others → x ≡ y → Compared entries others x y
  Longer : Extends entries others x y → Compared entries others x y
  Shorter : Extends others entries y x → Compared entries others x y

with_first : (first : Entry) (entries others : List Entry) (x y : List ℕ) → Extends entries others x y → Extends (first ∷ entries) (first ∷ others) x y
with_first first entries others x y more = record {
  entry = more.entry;
  more = more.more;
  list = ap (λ list. first ∷ list) more.list;
  behind = more.behind;
  rest = more.rest;
}

compared_with_first : (a b : Entry) (entries others : List Entry) (x y : List ℕ) → a ≡ b → Compared entries others x y → Compared (a ∷ entries) (b ∷ others) x y
compared_with_first a b entries others x y same (Same list rest) = Same (cc) rest
compared_with_first a b entries others x y same (Longer more) =
    Longer (subst (λ (e : Entry). Extends (a ∷ entries) (e ∷ others) x y) same (with_first a entries others x y more))
compared_with_first a b entries others x y same (Shorter more) =
    Shorter (subst (λ (e : Entry). Extends (e ∷ others) (a ∷ entries) y x) same (with_first a others entries y x more))

compare_records : (entries others : List Entry) (x y : List ℕ) → AllByRecursion HasBytes entries → AllByRecursion HasBytes others
    → sum_by record_size entries < 2 ^ 32 → sum_by record_size others < 2 ^ 32
    → flat_map record_bytes entries ++ x ≡ flat_map record_bytes others ++ y → Compared entries others x y
compare_records [] [] x y fits fits' small small' same = Same refl same
compare_records (e ∷ es) [] x y fits fits' small small' same =
    Longer (record { entry = e; more = es; list = refl; behind = flat_map record_bytes es ++ x; rest = sym same ∙ append_assoc (record_bytes e) (flat_map record_bytes es) x })
compare_records [] (f ∷ fs) x y fits fits' small small' same =
    Shorter (record { entry = f; more = fs; list = refl; behind = flat_map record_bytes fs ++ y; rest = same ∙ append_assoc (record_bytes f) (flat_map record_bytes fs) y })
compare_records (e ∷ es) (f ∷ fs) x y fits fits' small small' same =
    let sum = sum_by-cons record_size e es in
    let sum' = sum_by-cons record_size f fs in
    let short : length (bytes_of e) < 2 ^ 32 = omega (arith, sum, small) in
    let short' : length (bytes_of f) < 2 ^ 32 = omega (arith, sum', small') in
    let parts = record_once e f (flat_map record_bytes es ++ x) (flat_map record_bytes fs ++ y) fits.0 fits'.0 short short'
    (sym (append_assoc (record_bytes e) (flat_map record_bytes es) x) ∙ same ∙ append_assoc (record_bytes f) (flat_map record_bytes fs) y) in
    compared_with_first e f es fs x y parts.0 (compare_records es fs x y fits.1 fits'.1 (omega (arith, sum, small)) (omega (arith, sum', small')) parts.1)

pub compare : (start : State) (entries others : List Entry) (x y : List ℕ) → IsHistory start entries → IsHistory start others
    → before_gate entries ++ x ≡ before_gate others ++ y → Compared entries others x y
compare start entries others x y history history' same =
    compare_records entries others x y history.written history'.written (omega (arith, sum_of entries, history.small)) (omega (arith, sum_of others, history'.small))
    (append_cancel_left header _ _ (sym (behind_header entries x) ∙ same ∙ behind_header others y))
