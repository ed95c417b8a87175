-- A small world where a misbehaving host was handed the token of the entry that ends the program.
use Rattle.std.proofs.Common.{◌≡◌, ◌⊎◌, inl, inr, ℕ, zero, suc, true, [], ◌∷◌, refl, sym, subst, arith}
use Rattle.std.specs.Prelude.{IfSome}
use Rattle.std.proofs.lemmas.List.Elements.{All-cons}
use Rattle.jif_tree.specs.Altered.{Exposure}
use Rattle.ics_stack.specs.declared.stack.StackEntry.{StackEntry}
use Rattle.msg_cost.specs.Moves.{PlannedShape}
use Rattle.host_code.specs.declared.message.Message.TheVariants as message
use Rattle.net_world.specs.World.{IsRun, has_halted, state_at}
use Rattle.split_rules.specs.TypedCode.{Table}
use Rattle.token_laws.specs.Holders.{IsTokenSent}
use Rattle.token_laws.specs.TokenExamples.{first_token, given, handed, handing}
use Rattle.integrity.specs.Holding.{IsAmong, lost, StateIsOutside}
use Rattle.integrity.specs.IntegrityExamples.{last_entry, giving, ending, ended}
use Rattle.integrity.specs.Loose.{AreUnsentBelow, IsLoose}
use Rattle.integrity.specs.Outside.{Threat, EntryIsOpen}

module _ (planned : PlannedShape) (table : Table) (exposure : Exposure) where
  abbrev threat : Threat
  threat = record { planned = planned; code = handing; table = table; exposure = exposure }

  host_outside : (number : ℕ) →
      IfSome (state_at given (record { 0 = number })) (StateIsOutside threat (last_entry ∷ []) lost)
  host_outside zero = record {
    running = inr tt;
    waiting = λ k d lt. absurd (omega arith);
    entries = All-cons (λ e. IsAmong (last_entry ∷ []) e ⊎ EntryIsOpen threat e.entry) last_entry [] (inl (0, refl))
        (λ k d lt. absurd (omega arith));
  }
  host_outside (suc zero) = tt
  host_outside (suc (suc number)) = tt

  pub loose : IsLoose threat (last_entry ∷ []) given
  loose = record {
    linked = tt;
    there = ((0, refl), tt);
    unsent = tt;
    outside = record {
      states = λ host. host_outside host.0;
      flying = λ from to k d lt. absurd (omega arith);
    };
  }

-- the host gives the token back
pub gives_back : IsRun handing given (giving ∷ []) ended
gives_back = (
  ended,
  record {
    state = handed.state;
    message = message.Lgoto first_token;
    outcome = ending;
    bad = refl;
    obeys = refl;
    rests = refl;
    makes = refl;
    takes = (true, (λ t. refl, λ p. refl), refl);
    leaves = refl;
  },
  refl,
)

pub ends : has_halted handing.root ended
ends = refl

-- that of an entry below the first is handed over to nobody
pub sent_below : IsTokenSent given first_token → (first below : StackEntry) → below.token ≡ first_token →
    ¬ AreUnsentBelow given (first ∷ below ∷ [])
sent_below sent first below same unsent = unsent.0 (subst (IsTokenSent given) (sym same) sent)
