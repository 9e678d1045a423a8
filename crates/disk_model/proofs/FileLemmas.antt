-- Lemmas about the four files of a disk in memory.
use Rattle.std.proofs.Common.{◌≡◌, ℕ, ◌<◌, List, [], length, get_or, set, map, Vec, sym, ◌∙◌, ap, subst}
use Rattle.std.specs.declared.alloc.Global.{Global}
use Rattle.std.proofs.lemmas.List.{map-set, get_or-map}
use Rattle.disk_model.specs.Files.{FileBytes, bytes_of}

-- what clauses see of these files
abbrev seen_of : List (Vec ℕ Global) → ℕ → FileBytes
seen_of files room = record { files = map (λ (v : Vec ℕ Global). v.items) files; room = room }

-- a file with other bytes in the place of one
pub files_with : (files : List (Vec ℕ Global)) (room file : ℕ) (old new : Vec ℕ Global)
    (now : FileBytes) (changed : List ℕ → List ℕ) → seen_of files room ≡ now
    → file < length files → old ≡ get_or files file old → new.items ≡ changed old.items
    → seen_of (set files file new) room
    ≡ record now { files = set now.files file (changed (bytes_of now file)) }
files_with files room file old new now changed is within read made =
    let P : FileBytes → Type 0 = λ n. seen_of (set files file new) room
    ≡ record n { files = set n.files file (changed (bytes_of n file)) } in
    subst P is (ap (λ l. let b : FileBytes = record { files = l; room = room } in b)
    (map-set (λ (v : Vec ℕ Global). v.items) files file new
    ∙ ap (set (map (λ (v : Vec ℕ Global). v.items) files) file)
    (made ∙ ap changed (ap (λ (v : Vec ℕ Global). v.items) read
    ∙ sym (get_or-map (λ (v : Vec ℕ Global). v.items) files file old [] within)))))
