-- A text is what is UTF-8.
use Rattle.std.proofs.Common.{◌≡◌, ℕ, Bool, true, false, List, Option, Some, None, IsUtf8, refl}
use Rattle.std.specs.Str.{is_utf8}
use Rattle.std.proofs.lemmas.Str.{IsUtf8-from_is_utf8, is_utf8-from_IsUtf8}
use Rattle.content_codec.specs.Reading.{kept}

-- the test is false of what is not UTF-8
is_no_text : (text : List ℕ) → (IsUtf8 text → ⊥) → is_utf8 text ≡ false
is_no_text text not = at (is_utf8 text) refl
  where
    at : (test : Bool) → is_utf8 text ≡ test → test ≡ false
    at true e = absurd (not (IsUtf8-from_is_utf8 text e))
    at false e = refl

-- a text that stands there is kept
pub text_is_kept : (there : Option (List ℕ × List ℕ)) (front rest text : List ℕ) →
    there ≡ Some (front, rest) → IsUtf8 front → text ≡ front →
    kept is_utf8 there ≡ Some (text, rest)
text_is_kept there front rest text is utf8 same =
    let test = is_utf8-from_IsUtf8 front utf8 in rw (is, test, same) refl

-- what is no text is not kept
pub no_text_is_kept : (there : Option (List ℕ × List ℕ)) (front rest : List ℕ) →
    there ≡ Some (front, rest) → (IsUtf8 front → ⊥) → kept is_utf8 there ≡ None
no_text_is_kept there front rest is not =
    let test = is_no_text front not in rw (is, test) refl
