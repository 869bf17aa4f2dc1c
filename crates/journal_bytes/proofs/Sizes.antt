-- How many bytes the parts of a file have.
use Rattle.std.proofs.Common.{◌≡◌, ℕ, ◌+◌, ◌<◌, ◌≤◌, List, [], ◌∷◌, ◌++◌, length, refl, sym, append_assoc, length-append, arith}
use Rattle.std.proofs.lemmas.List.{flat_map_more}
use Rattle.std.proofs.lemmas.List.Sums.{sum_by-append, sum_by-cons, sum_by_push}
use Rattle.std.specs.List.{flat_map, sum_by}
use Rattle.acl_stmt.specs.declared.entry.Entry.{Entry}
use Rattle.entry_bytes.proofs.Once.{number_length}
use Rattle.entry_bytes.specs.Spelling.{bytes_of, number_bytes}
use Rattle.journal_bytes.specs.Files.{before_gate, file_size, header, payload_bytes, record_bytes}

pub length-payload : (entry : Entry) → length (payload_bytes entry) ≡ 4 + length (bytes_of entry)
length-payload entry = omega (arith, length-append (number_bytes (length (bytes_of entry))) (bytes_of entry), number_length (length (bytes_of entry)))

abbrev pub record_size : Entry → ℕ
record_size entry = 5 + length (bytes_of entry)

pub length-records : (entries : List Entry) → length (flat_map record_bytes entries) ≡ sum_by record_size entries
length-records [] = refl
length-records (entry ∷ entries) =
    omega (arith, length-append (record_bytes entry) (flat_map record_bytes entries), length-payload entry, length-records entries, sum_by-cons record_size entry entries)

pub length-header : length header ≡ 8
unfolding header
length-header = refl

pub place : (entries : List Entry) → length (before_gate entries) + 1 ≡ file_size entries
unfolding before_gate file_size
place entries = omega (arith, length-append header (flat_map record_bytes entries), length-header, length-records entries)

pub at_least : (entries : List Entry) → 9 ≤ file_size entries
unfolding file_size
at_least entries = omega arith

pub size_none : file_size [] ≡ 9
unfolding file_size
size_none = refl

pub size_more : (entries : List Entry) (entry : Entry) → file_size (entries ++ entry ∷ []) ≡ file_size entries + (5 + length (bytes_of entry))
unfolding file_size
size_more entries entry = omega (arith, sum_by_push record_size entries entry)

pub size_front : (entries more : List Entry) → file_size entries ≤ file_size (entries ++ more)
unfolding file_size
size_front entries more = omega (arith, sum_by-append record_size entries more)

pub bytes_more : (entries : List Entry) (entry : Entry) → before_gate (entries ++ entry ∷ []) ≡ before_gate entries ++ record_bytes entry
unfolding before_gate
bytes_more entries entry = sym (flat_map_more record_bytes header entries entry)

pub behind_header : (entries : List Entry) (rest : List ℕ) → before_gate entries ++ rest ≡ header ++ (flat_map record_bytes entries ++ rest)
unfolding before_gate
behind_header entries rest = append_assoc header (flat_map record_bytes entries) rest

pub sum_of : (entries : List Entry) → file_size entries ≡ 9 + sum_by record_size entries
unfolding file_size
sum_of entries = refl
