-- Lists joined from parts.
use Rattle.std.specs.Prelude.{ℕ, zero, suc, ◌*◌, List, [], ◌++◌, take, drop}

-- f 0, f 1, .. , f (count − 1), joined
abbrev pub chained : {A : Type 0} → ℕ → (ℕ → List A) → List A
chained zero f = []
chained (suc k) f = chained k f ++ f k

-- part i of a list that is joined from parts of one size: words i · size up to (i + 1) · size
abbrev pub part : ℕ → List ℕ → ℕ → List ℕ
part size words i = take size (drop (i * size) words)
