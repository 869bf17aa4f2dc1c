use Rattle.std.proofs.Common.{◌≡◌, Bool, List, [], ◌∷◌, map, refl, ap, sym, ◌∙◌}
use Rattle.std.specs.List.{list_any}
use Rattle.std.specs.Prelude.{◌||◌}
use Rattle.std.specs.Str.{str_eq_ignore_ascii_case}
use Rattle.grant_lex.proofs.reserved.is_reserved.Goals as goal

list_any-map : {X Y : Type 0} (p : Y → Bool) (h : X → Y) (xs : List X) → list_any p (map h xs) ≡ list_any (λ x. p (h x)) xs
list_any-map p h [] = refl
list_any-map p h (x ∷ xs) = ap (λ b. p (h x) || b) (list_any-map p h xs)

pub returns : goal.returns
returns c =
    let word = c.args.word.now in
    c.is_listed.ensures
    ∙ sym (list_any-map (λ name. str_eq_ignore_ascii_case name word) (λ name. name.now) c.words.result.now)
    ∙ ap (list_any (λ name. str_eq_ignore_ascii_case name word)) c.words.ensures
