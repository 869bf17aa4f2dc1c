use Rattle.std.proofs.Common.{◌≡◌, ◌∙◌, ◌+◌, ◌<◌, ◌∷◌, length, drop, ap, sym, arith, rules}
use Rattle.std.specs.Str.Lines.{lines}
use Rattle.script_lines.proofs.FirstLines.{last_line, first_of_more, rest_is}
use Rattle.script_lines.proofs.cut.first_line.Goals as goal

pub returns-then-end-bytes-clause-first : goal.returns-then-end-bytes-clause-first
returns-then-end-bytes-clause-first c =
    let bytes = c.args.bytes.now in
    let all : c.line_end-end.result ≡ length bytes = search rules in
    let some : 0 < length bytes = grind arith in
    last_line bytes some (λ k below. c.line_end-end.ensures.before k (omega arith))
    ∙ ap (λ rest. bytes ∷ lines rest) (sym (rest_is bytes c.line_end-end.result ∙ ap (λ n. drop n bytes) all))

pub returns-clause-first : goal.returns-clause-first
returns-clause-first c =
    let bytes = c.args.bytes.now in
    let end = c.line_end-end.result in
    let below : end < length bytes = grind arith in
    first_of_more bytes end below (c.line_end-end.ensures.ends below) c.line_end-end.ensures.before
    ∙ ap (λ line. line ∷ lines (drop (end + 1) bytes)) (sym c.without_return.ensures)
    ∙ ap (λ rest. c.without_return.result.now ∷ lines rest) (sym (rest_is bytes (end + 1)))
