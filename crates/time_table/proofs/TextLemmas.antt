-- Texts and their parts.
use Rattle.std.proofs.Common.{◌≡◌, ℕ, suc, ◌+◌, ◌-◌, ◌/◌, ◌%◌, ◌<◌, List, [], ◌∷◌, ◌++◌, length, take, drop, get_or, ◌∙◌, sym, ap, refl, arith}
use Rattle.std.proofs.lemmas.List.{drop-drop, drop_all, take-append-drop}
use Rattle.std.proofs.Math.Seq.{drop-cons}
use Rattle.civil_time.specs.Civil.{Civil, civil_text, two_digits, four_digits}
use Rattle.time_table.specs.Parts.{HasMarks}

-- four digits are those of the hundreds, and those of the rest
pub four_digits-halves : (n : ℕ) → four_digits n ≡ two_digits (n / 100) ++ two_digits (n % 100)
four_digits-halves n =
    let thousands : n / 1000 ≡ n / 100 / 10 = omega arith in
    let tens : n / 10 % 10 ≡ n % 100 / 10 = omega arith in
    let ones : n % 10 ≡ n % 100 % 10 = omega arith in
    rw (thousands, tens, ones) refl

-- a text goes on with the byte at a place, and then with what follows it
mark_then : (text : List ℕ) (place byte : ℕ) (rest : List ℕ) → place < length text →
    get_or text place 0 ≡ byte → drop (suc place) text ≡ rest → drop place text ≡ byte ∷ rest
mark_then text place byte rest inside here behind =
    drop-cons text place 0 inside ∙ ap (λ b. b ∷ drop (suc place) text) here
    ∙ ap (λ t. byte ∷ t) behind

-- and with the bytes of a part, and then with what follows them
part_then : (text : List ℕ) (place size : ℕ) (part rest : List ℕ) →
    take size (drop place text) ≡ part → drop (place + size) text ≡ rest →
    drop place text ≡ part ++ rest
part_then text place size part rest here behind =
    sym (take-append-drop size (drop place text)) ∙ ap (λ t. t ++ drop size (drop place text)) here
    ∙ ap (λ t. part ++ t) (drop-drop size place text ∙ behind)

-- nothing lies after the end
end_then : (text : List ℕ) → length text ≡ 20 → drop 20 text ≡ []
end_then text size = drop_all 20 text (omega arith)

-- a text with its marks and its parts is that of the civil second
pub text_from_parts : (text : List ℕ) (civil : Civil) → HasMarks text →
    take 4 text ≡ four_digits civil.year → take 2 (drop 5 text) ≡ two_digits civil.month →
    take 2 (drop 8 text) ≡ two_digits civil.day → take 2 (drop 11 text) ≡ two_digits civil.hour →
    take 2 (drop 14 text) ≡ two_digits civil.minute →
    take 2 (drop 17 text) ≡ two_digits civil.second →
    text ≡ civil_text civil
text_from_parts text civil marks year month day hour minute second =
    part_then text 0 4 _ _ year (mark_then text 4 45 _ (omega arith) marks.1
    (part_then text 5 2 _ _ month (mark_then text 7 45 _ (omega arith) marks.2
    (part_then text 8 2 _ _ day (mark_then text 10 84 _ (omega arith) marks.3
    (part_then text 11 2 _ _ hour (mark_then text 13 58 _ (omega arith) marks.4
    (part_then text 14 2 _ _ minute (mark_then text 16 58 _ (omega arith) marks.5
    (part_then text 17 2 _ _ second (mark_then text 19 90 _ (omega arith) marks.6
    (end_then text marks.0))))))))))))

-- the second half of four digits tells the rest
pub second_half : (text : List ℕ) (n : ℕ) → text ≡ four_digits n →
    take (length text - 2) (drop 2 text) ≡ two_digits (n % 100)
second_half text n same =
    let tens : n / 10 % 10 ≡ n % 100 / 10 = omega arith in
    let ones : n % 10 ≡ n % 100 % 10 = omega arith in
    rw (same, tens, ones) refl
