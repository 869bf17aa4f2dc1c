-- What is written piece by piece.
use Rattle.std.proofs.Common.{◌≡◌, ℕ, List, [], ◌++◌, ap, ◌∙◌, append_assoc}

pub written : (a b c d e f g h start one two three four five six seven last : List ℕ)
    → start ≡ [] → one ≡ start ++ a → two ≡ one ++ b → three ≡ two ++ c → four ≡ three ++ d → five ≡ four ++ e → six ≡ five ++ f → seven ≡ six ++ g → last ≡ seven ++ h
    → last ≡ a ++ (b ++ (c ++ (d ++ (e ++ (f ++ (g ++ h))))))
written a b c d e f g h start one two three four five six seven last s0 s1 s2 s3 s4 s5 s6 s7 s8 =
    let p1 : one ≡ a = s1 ∙ ap (λ l. l ++ a) s0 in
    let p2 : two ≡ a ++ b = s2 ∙ ap (λ l. l ++ b) p1 in
    let p3 : three ≡ a ++ (b ++ c) = s3 ∙ ap (λ l. l ++ c) p2 ∙ append_assoc a b c in
    let p4 : four ≡ a ++ (b ++ (c ++ d)) = s4 ∙ ap (λ l. l ++ d) p3 ∙ simp append_assoc in
    let p5 : five ≡ a ++ (b ++ (c ++ (d ++ e))) = s5 ∙ ap (λ l. l ++ e) p4 ∙ simp append_assoc in
    let p6 : six ≡ a ++ (b ++ (c ++ (d ++ (e ++ f)))) = s6 ∙ ap (λ l. l ++ f) p5 ∙ simp append_assoc in
    let p7 : seven ≡ a ++ (b ++ (c ++ (d ++ (e ++ (f ++ g))))) = s7 ∙ ap (λ l. l ++ g) p6 ∙ simp append_assoc in
    s8 ∙ ap (λ l. l ++ h) p7 ∙ simp append_assoc
