use Rattle.std.proofs.Common.{◌<◌, ◌∙◌, ap, get_or, length, sym, arith, rules}
use Rattle.script_lines.specs.Beginnings.{is_session_byte}
use Rattle.script_lines.proofs.Fronts.{place_end, place_long, place_mark, place_name, place_none}
use Rattle.script_lines.proofs.beginning.unbegun_place.Goals as goal

pub returns-then-name-gt-MOST_NAME_BYTES : goal.returns-then-name-gt-MOST_NAME_BYTES
returns-then-name-gt-MOST_NAME_BYTES c =
    place_long c.args.text.now c.name_length-name.result c.name_length-name.ensures.within c.name_length-name.ensures.before (omega arith) c.requires

pub returns-then-name-eq0 : goal.returns-then-name-eq0
returns-then-name-eq0 c =
    let text = c.args.text.now in
    place_none text (λ below. ap (λ n. is_session_byte (get_or text n 0)) (sym c.if-name-eq0.true) ∙ c.name_length-name.ensures.ends (omega arith)) c.requires

pub returns-then-name-text : goal.returns-then-name-text
returns-then-name-text c =
    place_end c.args.text.now c.name_length-name.result (search rules) c.name_length-name.ensures.before (grind arith) (omega arith) c.requires

pub returns-then-text-name-eq62 : goal.returns-then-text-name-eq62
returns-then-text-name-eq62 c =
    let size = c.name_length-name.result in
    let below : size < length c.args.text.now = grind arith in
    place_mark c.args.text.now size below c.name_length-name.ensures.before (c.name_length-name.ensures.ends below) (grind arith) (omega arith) (search rules) c.requires

pub returns-else-text-name-eq62 : goal.returns-else-text-name-eq62
returns-else-text-name-eq62 c =
    let size = c.name_length-name.result in
    let below : size < length c.args.text.now = grind arith in
    place_name c.args.text.now size below c.name_length-name.ensures.before (c.name_length-name.ensures.ends below) (grind arith) (omega arith) (search rules) c.requires
