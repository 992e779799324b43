-- How few rounds a sheet has, and that a round takes out the vertices that it chose.
use Rattle.std.specs.Prelude.{◌≡◌, ℕ, zero, suc, ◌+◌, ◌*◌, ◌/◌, ◌<◌, ◌≤◌, List, length, Ok}
use Rattle.plane.specs.Points.{place_of}
use Rattle.nodes.specs.declared.node.Node.{Node}
use Rattle.fans.specs.Around.{left_from}
use Rattle.sheet.specs.Sheets.{Sheet, points_of}
use Rattle.rounds.specs.Choices.{Found, look_all, rounded_live, rounded_nodes}
use Rattle.hierarchy.specs.Theorems.{Made}

-- the binary digits of a number that so many halvings bring down to 0
unfoldable pub digits_within : (halvings n : ℕ) → ℕ
digits_within zero n = 0
digits_within (suc halvings) zero = 0
digits_within (suc halvings) (suc n) = digits_within halvings (suc n / 2) + 1

-- so many binary digits has a number; 0 has none. As many halvings as the number says bring it down to 0
abbrev pub digits : ℕ → ℕ
digits n = digits_within n n

-- inner vertices left over rounds: each round takes out a vertex at least, and no fewer than an eighteenth of those left
pub data Fell (n : ℕ) : (rounds left : ℕ) → Type 0 where
  begin : (left : ℕ) → left ≤ n → Fell n 0 left
  round : (rounds left chosen next : ℕ) → Fell n rounds left → 0 < left → left ≤ 18 * chosen → next + chosen ≤ left → Fell n (rounds + 1) next

-- the theorem: rounds that go so are at most thirteen for each binary digit
abbrev pub RoundsAreFew : Type 0
RoundsAreFew = (n rounds left : ℕ) → Fell n rounds left → rounds ≤ 13 * digits n

-- a round tells how many vertices are left, and takes its own out: what is left after it, with the chosen ones, is no more than what was
-- left before
abbrev pub RoundTakesOut : Type 0
RoundTakesOut =
    (s : Sheet) (nodes : List Node) (live made : List ℕ) (rounds : ℕ) → Made s nodes live made rounds
    → (f : Found) → look_all (place_of (points_of s)) nodes live (length s.inner) ≡ Ok f
    → (f.left ≡ left_from nodes live (length s.inner) 4)
    × (left_from (rounded_nodes (place_of (points_of s)) nodes live (length s.inner) f.marks) (rounded_live (place_of (points_of s)) nodes live f) (length s.inner) 4 + f.chosen
    ≤ left_from nodes live (length s.inner) 4)
