use Rattle.std.proofs.Common.{◌≡◌, sym, subst, ℕ, List, [], ◌∷◌}
use Rattle.acl_stmt.specs.declared.statement.Statement.{Statement}
use Rattle.show_grants.specs.Lines.{shown}
use Rattle.shown_texts.proofs.LinesRead.{line_among}
use Rattle.shown_texts.proofs.Shown.{shown_read}
use Rattle.shown_texts.proofs.reading.read_line.Goals as goal
use Rattle.shown_texts.specs.Lines.{line_text}
use Rattle.shown_texts.specs.ReadLines.{IsReadAs}

-- a text that is a line's
text_read : (text : List ℕ) (most : ℕ) (s : Statement) → text ≡ line_text s → IsReadAs (line_text s) s → IsReadAs text s
text_read text most s is read = subst (λ (t : List ℕ). IsReadAs t s) (sym is) read

pub returns-clause-shown : goal.returns-clause-shown
returns-clause-shown c =
    λ there rows a earlier s later sound covers keep stood split is short.
    c.parse.ensures.only s
    (text_read c.args.line.now c.args.most s is (line_among (shown there rows (a ∷ []) a) earlier s later (shown_read there rows a sound covers keep stood) split) c.args.most short)
