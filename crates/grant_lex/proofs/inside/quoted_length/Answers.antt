use Rattle.std.proofs.Common.{◌+◌, List, ℕ, length, arith, inr, sym, subst}
use Rattle.std.proofs.lemmas.Slice.{between_to_end}
use Rattle.grant_lex.specs.Inside.{BeginsWithPiece, Closes, HasBadPair, ArePieces}
use Rattle.grant_lex.proofs.Quotes.{bad_pair_within, closed_within, within_le, within_more}
use Rattle.grant_lex.proofs.inside.quoted_length.Goals as goal

pub loop-piece-preserved : goal.loop-piece-preserved
loop-piece-preserved c =
    let inside = c.args.inside.now in
    let goes = subst (λ (l : List ℕ). BeginsWithPiece c.args.quote l c.in-Next.piece) (between_to_end inside c.loop-piece.length (length inside) (omega arith)) c.in-Next.ensures in
    let more : ArePieces c.args.quote inside (c.loop-piece.length + c.length-length.result) =
    subst (λ k. ArePieces c.args.quote inside (c.loop-piece.length + k)) (sym (c.length-length.ensures c.args.quote)) (within_more _ _ _ _ c.loop-piece.invariant.pieces goes) in
    record { within = within_le _ _ _ more; pieces = more }

pub returns-in-Closing-clause-ok : goal.returns-in-Closing-clause-ok
returns-in-Closing-clause-ok c =
    let inside = c.args.inside.now in
    let closes = subst (λ (l : List ℕ). Closes c.args.quote l c.in-Closing.ensures.0) (between_to_end inside c.loop-piece.length (length inside) (omega arith)) c.in-Closing.ensures.1 in
    closed_within _ _ _ c.loop-piece.invariant.pieces _ closes

pub returns-in-BadPair-clause-err : goal.returns-in-BadPair-clause-err
returns-in-BadPair-clause-err c =
    let inside = c.args.inside.now in
    let bad = subst (λ (l : List ℕ). HasBadPair c.args.quote l) (between_to_end inside c.loop-piece.length (length inside) (omega arith)) c.in-BadPair.ensures in
    inr (bad_pair_within _ _ _ _ c.requires.sort c.loop-piece.invariant.pieces bad)
