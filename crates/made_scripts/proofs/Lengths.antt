-- No line of a made script has more than 40 bytes.
use Rattle.std.proofs.Common.{◌≡◌, ℕ, zero, suc, ◌+◌, ◌*◌, ◌<◌, ◌≤◌, List, [], ◌++◌, length, codes, arith, append-nil, length-append}
use Rattle.std.proofs.lemmas.Fmt.{length-decimal-le}
use Rattle.std.specs.List.{flat_map, range_with_len}
use Rattle.std.specs.Prelude.{decimal}
use Rattle.made_scripts.specs.Draws.{behind_line, deed_of, draw_at, drawn, kind_at, right_at, line_at, lines_from, state_after}
use Rattle.made_scripts.specs.Scripts.{made}
use Rattle.made_scripts.specs.Texts.{command_line, deed_text, first_line, line_text, right_text}
use Rattle.made_scripts.specs.declared.deed.Right.{Right}
use Rattle.made_scripts.specs.declared.deed.Right.TheVariants.{Select, Insert, Update, Delete}
use Rattle.made_scripts.specs.declared.draws.Kind.{Kind}
use Rattle.made_scripts.specs.declared.draws.Kind.TheVariants.{Creation, RoleCreation, SchemaGrant, RoleGrant, GlobalGrant, SchemaRevoke, SchemaUse, TableCheck}

-- what is drawn below a number is below it
pub drawn_below : (below state : ℕ) → 0 < below → drawn below state < below
unfolding drawn
drawn_below below state some = omega arith

short_number : (n : ℕ) → n < 1000 → length (decimal n) ≤ 3
short_number n small = length-decimal-le 3 n (omega arith) (omega arith) (omega arith)

short_draw : (state place below : ℕ) → 0 < below → below ≤ 1000 → length (decimal (draw_at state place below)) ≤ 3
short_draw state place below some few =
    let less = drawn_below below (state_after state place) some in short_number (draw_at state place below) (omega (arith, less))

short_right : (right : Right) → length (right_text right) ≤ 6
short_right Select = omega arith
short_right Insert = omega arith
short_right Update = omega arith
short_right Delete = omega arith

-- a text of two names
two_names : (a between b : List ℕ) → length (a ++ (between ++ b)) ≡ length a + length between + length b
two_names a between b = omega (arith, length-append a (between ++ b), length-append between b)

-- a text of three
three_names : (a between b behind c : List ℕ) → length (a ++ (between ++ (b ++ (behind ++ c)))) ≡ length a + length between + length b + length behind + length c
three_names a between b behind c =
    omega (arith, length-append a (between ++ (b ++ (behind ++ c))), length-append between (b ++ (behind ++ c)), length-append b (behind ++ c), length-append behind c)

pub short_deed : (kind : Kind) (state : ℕ) → length (deed_text (deed_of kind state)) ≤ 33
short_deed Creation state = let u = short_draw state 1 200 (omega arith) (omega arith) in omega (arith, u)
short_deed RoleCreation state = let r = short_draw state 1 50 (omega arith) (omega arith) in omega (arith, r)
short_deed SchemaGrant state =
    let p = short_right (right_at state 1) in
    let d = short_draw state 2 20 (omega arith) (omega arith) in
    let u = short_draw state 3 200 (omega arith) (omega arith) in
    let e = three_names (right_text (right_at state 1)) (codes " ON d") (decimal (draw_at state 2 20)) (codes ".* TO u") (decimal (draw_at state 3 200)) in
    omega (arith, p, d, u, e)
short_deed RoleGrant state =
    let r = short_draw state 1 50 (omega arith) (omega arith) in
    let u = short_draw state 2 200 (omega arith) (omega arith) in
    let e = two_names (decimal (draw_at state 1 50)) (codes " TO u") (decimal (draw_at state 2 200)) in
    omega (arith, r, u, e)
short_deed GlobalGrant state =
    let p = short_right (right_at state 1) in
    let r = short_draw state 2 50 (omega arith) (omega arith) in
    let e = two_names (right_text (right_at state 1)) (codes " ON *.* TO r") (decimal (draw_at state 2 50)) in
    omega (arith, p, r, e)
short_deed SchemaRevoke state =
    let p = short_right (right_at state 1) in
    let d = short_draw state 2 20 (omega arith) (omega arith) in
    let r = short_draw state 3 50 (omega arith) (omega arith) in
    let e = three_names (right_text (right_at state 1)) (codes " ON d") (decimal (draw_at state 2 20)) (codes ".* FROM r") (decimal (draw_at state 3 50)) in
    omega (arith, p, d, r, e)
short_deed SchemaUse state = let d = short_draw state 1 20 (omega arith) (omega arith) in omega (arith, d)
short_deed TableCheck state =
    let p = short_right (right_at state 1) in
    let d = short_draw state 2 20 (omega arith) (omega arith) in
    let e = three_names (right_text (right_at state 1)) (codes " ON d") (decimal (draw_at state 2 20)) (codes ".t") [] in
    let none = append-nil (codes ".t") in
    omega (arith, p, d, e)

short_line : (session : ℕ) (command : List ℕ) → session < 64 → length command ≤ 33 → length (command_line session command) ≤ 40
short_line session command few short =
    let n = short_number session (omega (arith, few)) in
    let e = three_names (decimal session) (codes "> ") command (codes "\n") [] in
    omega (arith, n, short, e)

short_lines : (sessions state count : ℕ) → 0 < sessions → sessions ≤ 64 → length (flat_map line_text (lines_from sessions state count)) ≤ 40 * count
short_lines sessions state zero some few = omega arith
short_lines sessions state (suc count) some few =
    let rest = short_lines sessions (behind_line state) count some few in
    let one = short_line (draw_at state 1 sessions) (deed_text (deed_of (kind_at state 2) (state_after state 2)))
    (let less = drawn_below sessions (state_after state 1) some in omega (arith, less)) (short_deed (kind_at state 2) (state_after state 2)) in
    omega (arith, rest, one, length-append (line_text (line_at sessions state)) (flat_map line_text (lines_from sessions (behind_line state) count)))

short_first : (from count : ℕ) → from + count ≤ 64 → length (flat_map first_line (range_with_len from count)) ≤ 40 * count
short_first from zero few = omega arith
short_first from (suc count) few =
    let rest = short_first (from + 1) count (omega arith) in
    let one = short_line from (codes "CONNECT root FROM LOCAL") (omega arith) (omega arith) in
    omega (arith, rest, one, length-append (first_line from) (flat_map first_line (range_with_len (from + 1) count)))

pub made_is_short : (number sessions lines : ℕ) → 0 < sessions → sessions ≤ 64 → length (made number sessions lines) ≤ 40 * (sessions + lines)
made_is_short number sessions lines some few =
    let first = short_first 0 sessions (omega arith) in
    let then = short_lines sessions number lines some few in
    omega (arith, first, then, length-append (flat_map first_line (range_with_len 0 sessions)) (flat_map line_text (lines_from sessions number lines)))
