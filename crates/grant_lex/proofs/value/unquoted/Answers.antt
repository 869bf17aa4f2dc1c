use Rattle.std.proofs.Common.{◌+◌, ◌++◌, List, ℕ, length, arith, sym, subst}
use Rattle.std.proofs.lemmas.Slice.{between_to_end}
use Rattle.grant_lex.specs.Inside.{BeginsWithPiece, IsNextInside, meaning}
use Rattle.grant_lex.proofs.Unique.{not_backslash}
use Rattle.grant_lex.proofs.Values.{IsValueSoFar, quote_ascii, stop_text, value_end, value_more}
use Rattle.grant_lex.proofs.value.unquoted.Goals as goal

pub loop-piece-preserved : goal.loop-piece-preserved
loop-piece-preserved c =
    let quote = c.args.quote in
    let inside = c.args.inside.now in
    let so_far = c.loop-piece.invariant in
    let goes = subst (λ (l : List ℕ). BeginsWithPiece quote l c.in-Next.piece) (between_to_end inside c.loop-piece.length (length inside) (omega arith)) c.in-Next.ensures in
    let more = value_more quote inside _ _ _ (not_backslash quote c.requires.sort) (quote_ascii quote c.requires.sort) so_far goes in
    let grown = subst (λ k. IsValueSoFar quote inside (c.loop-piece.length + k) (c.loop-piece.value.items ++ meaning quote c.in-Next.piece)) (sym (c.length-length.ensures quote)) more in
    subst (λ (v : List ℕ). IsValueSoFar quote inside (c.loop-piece.length + c.length-length.result) v) (sym c.in_ok-push_meaning.ensures.ok) grown

pub returns : goal.returns
returns c =
    let quote = c.args.quote in
    let inside = c.args.inside.now in
    let so_far = c.loop-piece.invariant in
    let next = subst (λ (l : List ℕ). IsNextInside quote l c.next_inside.result) (between_to_end inside c.loop-piece.length (length inside) (omega arith)) c.next_inside.ensures in
    record {
      value = value_end quote inside _ _ _ (not_backslash quote c.requires.sort) so_far next c.in_default.not-Next;
      text = stop_text quote _ _ _ (quote_ascii quote c.requires.sort) next c.in_default.not-Next so_far.text;
    }
