-- What links have left to give, what they took and with what they began, where they tell.
use Rattle.std.specs.Prelude.{◌≡◌, ℕ, List, [], ◌∷◌, ◌++◌, Option}
use Rattle.std.specs.Option.{option_map}
use Rattle.js_base.specs.declared.ids.HostId.{HostId}

-- one more stands behind all that were there
abbrev pub OneMore : {A : Type 0} → A → Option (List A) → Option (List A) → Type 0
OneMore one old new = new ≡ option_map (λ all. all ++ one ∷ []) old

-- they began as a host, with the paths of all hosts
abbrev pub Began : HostId → List (List ℕ) → Option (List (HostId × List (List ℕ))) →
    Option (List (HostId × List (List ℕ))) → Type 0
Began me paths old new = OneMore (me, paths) old new

-- the next frame was given, and the others are left
abbrev pub Gave : List ℕ → Option (List (List ℕ)) → Option (List (List ℕ)) → Type 0
Gave bytes old new = old ≡ option_map (λ rest. bytes ∷ rest) new

-- a frame to a host was sent, after all others
abbrev pub Took : HostId → List ℕ → Option (List (HostId × List ℕ)) → Option (List (HostId × List ℕ)) → Type 0
Took to bytes old new = OneMore (to, bytes) old new
