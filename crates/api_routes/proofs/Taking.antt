-- Which paths the patterns of a router take, where a parameter stands only at a pattern's end.
use Rattle.std.specs.Prelude.{◌≡◌, ◌≢◌, ℕ, Bool, true, false, ◌==◌, ◌&&◌, ◌||◌, not, ltb, cond, List, [], ◌∷◌, length}
use Rattle.std.specs.List.{list_all, list_any}
use Rattle.matchit.specs.Rows.{RowsOf, param_token, catch_all_token}
use Rattle.matchit.specs.Seek.{has_slash, same_text}

-- whether a pattern takes a path: bytes take themselves, and a parameter takes one part
abbrev pub takes : List ℕ → List ℕ → Bool
takes [] [] = true
takes [] (b ∷ path) = false
takes (x ∷ t) [] = false
takes (x ∷ t) (b ∷ path) =
    ((x == b) && takes t path) || ((x == param_token) && not (has_slash (b ∷ path)))

-- whether all of a pattern is bytes
abbrev pub is_literal : List ℕ → Bool
is_literal t = list_all (λ x. ltb x param_token) t

-- whether what follows a token may follow it: nothing follows a parameter
abbrev pub may_follow : ℕ → List ℕ → Bool
may_follow x [] = not (x == catch_all_token)
may_follow x (y ∷ t) = ltb x param_token

-- whether a pattern has no catch-all, and a parameter only at its end
abbrev pub is_simple : List ℕ → Bool
is_simple [] = true
is_simple (x ∷ t) = may_follow x t && is_simple t

-- the pattern has no catch-all, and a parameter only at its end
abbrev pub IsSimple : List ℕ → Type 0
IsSimple [] = Unit {0}
IsSimple (x ∷ t) = (x ≢ catch_all_token) × (x ≡ param_token → t ≡ []) × IsSimple t

module _ {K : Type 0} where
  -- each pattern is simple
  abbrev pub AllSimple : RowsOf K → Type 0
  AllSimple [] = Unit {0}
  AllSimple ((t, k) ∷ rest) = IsSimple t × AllSimple rest

  -- each pattern is at its end
  abbrev pub AllAtEnd : RowsOf K → Type 0
  AllAtEnd [] = Unit {0}
  AllAtEnd ((t, k) ∷ rest) = (t ≡ []) × AllAtEnd rest

  -- this holds of the key of each row that takes the path
  abbrev pub AllLead : (K → Type 0) → List ℕ → RowsOf K → Type 0
  AllLead P path [] = Unit {0}
  AllLead P path ((t, k) ∷ rest) = (takes t path ≡ true → P k) × AllLead P path rest

  -- no row takes the path
  abbrev pub NoneTakes : List ℕ → RowsOf K → Type 0
  NoneTakes path rs = AllLead (λ k. ⊥) path rs

  -- no row has a parameter at its front that takes the path
  abbrev pub NoParameterTakes : List ℕ → RowsOf K → Type 0
  NoParameterTakes path [] = Unit {0}
  NoParameterTakes path (([], k) ∷ rest) = NoParameterTakes path rest
  NoParameterTakes path ((x ∷ t, k) ∷ rest) =
      (((x == param_token) && not (has_slash path)) ≡ false) × NoParameterTakes path rest

  -- what a parameter takes of a path if rows end after it, by whether the path has a slash
  abbrev pub end_step : Bool → List ℕ → RowsOf K → ℕ × RowsOf K
  end_step slash_left path rs = cond slash_left (0, []) (length path, rs)

  -- whether each pattern is simple
  abbrev pub all_simple : RowsOf K → Bool
  all_simple [] = true
  all_simple ((t, k) ∷ rest) = is_simple t && all_simple rest

  -- whether one of the rows has this pattern
  abbrev pub has_pattern : List ℕ → RowsOf K → Bool
  has_pattern p rs = list_any (λ row. same_text row.0 p) rs
