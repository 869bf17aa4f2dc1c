-- The first line of bytes, and how many lines there are.
use Rattle.std.proofs.Common.{◌≡◌, ◌≢◌, ℕ, ◌+◌, ◌-◌, ◌<◌, ◌≤◌, Bool, true, false, ◌==◌, List, [], ◌∷◌, ◌++◌, length, get_or, take, drop, suc, add-one, refl, sym, ap, ◌∙◌, arith, if◌then◌else◌, lit≤}
use Rattle.std.specs.List.{All, slice_split}
use Rattle.std.specs.Str.Lines.{lines, lines_of_parts, strip_carriage_return}
use Rattle.std.proofs.lemmas.Bool.{eqb-true, false_from_ne_true}
use Rattle.std.proofs.lemmas.List.Sums.{count_by-le-length}
use Rattle.std.proofs.lemmas.List.{get_or-take, get_or_default, length-drop, length-take-le, take-append-drop}
use Rattle.std.proofs.lemmas.List.Splits.{length-slice_split, slice_split_at, slice_split_none}
use Rattle.std.proofs.Math.Seq.{drop-length, drop-cons, take-length}

-- whether a byte is a line feed
abbrev is_feed : ℕ → Bool
is_feed byte = byte == 10

no_feed : (line : List ℕ) → ((k : ℕ) → k < length line → get_or line k 0 ≢ 10) → All (λ byte. is_feed byte ≡ false) line
no_feed line none k d below = false_from_ne_true (get_or line k d == 10) (λ e. none k below (get_or_default line k 0 d below ∙ eqb-true (get_or line k d) 10 e))

-- a part before a line feed is a line, without the carriage return at its end
part-lines : (line : List ℕ) (parts : List (List ℕ)) → 0 < length parts → lines_of_parts (line ∷ parts) ≡ strip_carriage_return line ∷ lines_of_parts parts
part-lines line [] some = absurd (omega arith)
part-lines line (next ∷ parts) some = refl

lone_part : (line : List ℕ) → 0 < length line → lines_of_parts (line ∷ []) ≡ line ∷ []
lone_part line some = ap (λ b. if b then [] else line ∷ []) (false_from_ne_true (length line == 0) (λ e. absurd (omega (arith, eqb-true (length line) 0 e))))

pub last_line : (bytes : List ℕ) → 0 < length bytes → ((k : ℕ) → k < length bytes → get_or bytes k 0 ≢ 10) → lines bytes ≡ bytes ∷ lines (drop (length bytes) bytes)
last_line [] some none = absurd (omega arith)
last_line (byte ∷ rest) some none =
    ap lines_of_parts (slice_split_none is_feed (byte ∷ rest) (no_feed (byte ∷ rest) none))
    ∙ lone_part (byte ∷ rest) some ∙ ap (λ line. (byte ∷ rest) ∷ lines line) (sym (drop-length (byte ∷ rest)))

-- what `&bytes[n..]` holds
pub rest_is : (bytes : List ℕ) (n : ℕ) → take (length bytes - n) (drop n bytes) ≡ drop n bytes
rest_is bytes n = ap (λ k. take k (drop n bytes)) (sym (length-drop n bytes)) ∙ take-length (drop n bytes)

pub first_of_more : (bytes : List ℕ) (end : ℕ) → end < length bytes → get_or bytes end 0 ≡ 10 → ((k : ℕ) → k < end → get_or bytes k 0 ≢ 10)
    → lines bytes ≡ strip_carriage_return (take end bytes) ∷ lines (drop (end + 1) bytes)
first_of_more bytes end below feed none =
    let behind : drop end bytes ≡ 10 ∷ drop (end + 1) bytes = drop-cons bytes end 0 below ∙ ap (λ byte. byte ∷ drop (suc end) bytes) feed ∙ ap (λ n. 10 ∷ drop n bytes) (sym (add-one end)) in
    let split : bytes ≡ take end bytes ++ 10 ∷ drop (end + 1) bytes = sym (take-append-drop end bytes) ∙ ap (λ rest. take end bytes ++ rest) behind in
    let short : length (take end bytes) ≡ end = length-take-le end bytes (omega arith) in
    let free = no_feed (take end bytes) (λ k lt e. none k (omega arith) (sym (get_or-take end bytes k 0 (omega arith)) ∙ e)) in
    ap lines split ∙ ap lines_of_parts (slice_split_at is_feed (take end bytes) 10 (drop (end + 1) bytes) free refl)
    ∙ part-lines (take end bytes) (slice_split is_feed (drop (end + 1) bytes)) (omega (arith, length-slice_split is_feed (drop (end + 1) bytes)))

last_part : (line : List ℕ) (b : Bool) → length (if b then [] else line ∷ []) ≤ 1
last_part line true = lit≤ tt
last_part line false = lit≤ tt

length-lines_of_parts : (parts : List (List ℕ)) → length (lines_of_parts parts) ≤ length parts
length-lines_of_parts [] = lit≤ tt
length-lines_of_parts (line ∷ []) = last_part line (length line == 0)
length-lines_of_parts (line ∷ next ∷ parts) = omega (arith, length-lines_of_parts (next ∷ parts))

pub length-lines : (bytes : List ℕ) → length (lines bytes) ≤ length bytes + 1
length-lines bytes = omega (arith, length-lines_of_parts (slice_split is_feed bytes), length-slice_split is_feed bytes, count_by-le-length is_feed bytes)
