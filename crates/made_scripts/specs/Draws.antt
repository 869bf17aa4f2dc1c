-- The draws of the generator, and the lines that they make.
use Rattle.std.specs.Prelude.{ℕ, zero, suc, ◌+◌, ◌*◌, ◌/◌, ◌%◌, List, [], ◌∷◌, slice_index_or}
use Rattle.made_scripts.specs.declared.deed.Deed.{Deed}
use Rattle.made_scripts.specs.declared.deed.Deed.TheVariants.{CreateUser, CreateRole, GrantOnSchema, GrantRole, GrantEverywhere, RevokeOnSchema, UseSchema, CheckOnTable}
use Rattle.made_scripts.specs.declared.deed.MadeLine.{MadeLine}
use Rattle.made_scripts.specs.declared.draws.Kind.{Kind}
use Rattle.made_scripts.specs.declared.draws.Kind.TheVariants.{Creation, RoleCreation, SchemaGrant, RoleGrant, GlobalGrant, SchemaRevoke, SchemaUse, TableCheck}
use Rattle.made_scripts.specs.declared.deed.Right.{Right}
use Rattle.made_scripts.specs.declared.deed.Right.TheVariants.{Select, Insert, Update, Delete}

-- the next state, modulo 2 ^ 64
unfoldable pub next_state : ℕ → ℕ
next_state state = (state * 6364136223846793005 + 1442695040888963407) % 18446744073709551616

-- the state so many draws later
abbrev pub state_after : ℕ → ℕ → ℕ
state_after state zero = state
state_after state (suc count) = next_state (state_after state count)

-- what is drawn below this number with this state, which the draw has made: its bits from the 33rd on, by what is left of them
unfoldable pub drawn : ℕ → ℕ → ℕ
drawn below state = (state / 8589934592) % below

-- the draw with this place, counted from 1, behind a state
abbrev pub draw_at : ℕ → ℕ → ℕ → ℕ
draw_at state place below = drawn below (state_after state place)

-- the privilege that is drawn
abbrev pub rights : List Right
rights = Select ∷ Insert ∷ Update ∷ Delete ∷ []

abbrev pub right_at : ℕ → ℕ → Right
right_at state place = slice_index_or rights (draw_at state place 4) Delete

-- the kinds of lines, in the order of their numbers
abbrev pub kinds : List Kind
kinds = Creation ∷ RoleCreation ∷ SchemaGrant ∷ RoleGrant ∷ GlobalGrant ∷ SchemaRevoke ∷ SchemaUse ∷ TableCheck ∷ []

abbrev pub kind_at : ℕ → ℕ → Kind
kind_at state place = slice_index_or kinds (draw_at state place 8) TableCheck

-- what a line of this kind does, its draws made from left to right behind this state: users are drawn below 200, roles below 50
-- and schemas below 20
abbrev pub deed_of : Kind → ℕ → Deed
deed_of Creation state = CreateUser (draw_at state 1 200)
deed_of RoleCreation state = CreateRole (draw_at state 1 50)
deed_of SchemaGrant state = GrantOnSchema (right_at state 1) (draw_at state 2 20) (draw_at state 3 200)
deed_of RoleGrant state = GrantRole (draw_at state 1 50) (draw_at state 2 200)
deed_of GlobalGrant state = GrantEverywhere (right_at state 1) (draw_at state 2 50)
deed_of SchemaRevoke state = RevokeOnSchema (right_at state 1) (draw_at state 2 20) (draw_at state 3 50)
deed_of SchemaUse state = UseSchema (draw_at state 1 20)
deed_of TableCheck state = CheckOnTable (right_at state 1) (draw_at state 2 20)

-- how many draws that takes
abbrev pub draw_count : Kind → ℕ
draw_count Creation = 1
draw_count RoleCreation = 1
draw_count SchemaGrant = 3
draw_count RoleGrant = 2
draw_count GlobalGrant = 2
draw_count SchemaRevoke = 3
draw_count SchemaUse = 1
draw_count TableCheck = 2

-- the line that is drawn behind a state: first its session, then its kind
abbrev pub line_at : ℕ → ℕ → MadeLine
line_at sessions state = record { session = draw_at state 1 sessions; deed = deed_of (kind_at state 2) (state_after state 2) }

-- the state behind that line
abbrev pub behind_line : ℕ → ℕ
behind_line state = state_after (state_after state 2) (draw_count (kind_at state 2))

-- so many lines, drawn one after the other
abbrev pub lines_from : ℕ → ℕ → ℕ → List MadeLine
lines_from sessions state zero = []
lines_from sessions state (suc count) = line_at sessions state ∷ lines_from sessions (behind_line state) count
