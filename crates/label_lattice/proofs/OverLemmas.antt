-- What keeps a label over the same principals.
use Rattle.std.proofs.Common.{ℕ, ◌≡◌, ◌<◌, ◌⊎◌, subst, refl, inl, inr, max, List, [], All, get_or, length, arith}
use Rattle.std.specs.Prelude.{Any}
use Rattle.std.specs.Int.{bit_at}
use Rattle.js_base.specs.declared.ids.PrincipalId.{PrincipalId}
use Rattle.principals.specs.ActsFor.{Declared, IsDeclared, ActsFor, IsReader, outsider}
use Rattle.label_lattice.specs.declared.label.Label.{Label}
use Rattle.label_lattice.specs.Label.{Forbids, IsLabel, ForbidsNothing, IsUntrusted, IsBottom, SameForbidden, SameTrust}
use Rattle.label_lattice.specs.Label.{KeepsOut, AddsPolicy, AddsTrust}
use Rattle.label_lattice.specs.Lattice.{IsJoin, IsIntegrityMeet}
use Rattle.label_lattice.specs.Over.{IsForbiddenBy, ForbidsOver, TrustsOver, IsLabelOver}
use Rattle.label_lattice.proofs.LatticeLemmas.{either_bit}
use Rattle.label_lattice.proofs.PolicyLemmas.{OutsiderIsAlone, LeadsToDeclared, GoesOn, outsider_kept_out}

-- ---- labels without policies or trust

free_over : (principals : Declared) (label : Label) → ForbidsNothing label → ForbidsOver principals label
free_over principals label nothing = record {
  owners = λ q r q_in r_in forbids. absurd (nothing q r q_in r_in forbids);
  readers = λ q r q_in r_in forbids. absurd (nothing q r q_in r_in forbids);
  outsider = λ q r q_in r_in forbids. absurd (nothing q r q_in r_in forbids);
  on_behalf = λ q o r q_in o_in r_in forbids. absurd (nothing q r q_in r_in forbids);
  kept_out = λ q r o q_in r_in o_in forbids. absurd (nothing q r q_in r_in forbids);
  by_policy = λ q r q_in r_in forbids. absurd (nothing q r q_in r_in forbids);
}

pub over_empty : (principals : Declared) (label : Label) → IsLabel label → ForbidsNothing label → IsUntrusted label →
    IsLabelOver principals label
over_empty principals label is nothing untrusted = record {
  is_label = is;
  forbids = free_over principals label nothing;
  trusts = record {
    declared = λ p p_in trusts. absurd (untrusted p p_in trusts);
    on_behalf = λ p q p_in q_in trusts. absurd (untrusted p p_in trusts);
  };
}

pub over_bottom : LeadsToDeclared → (principals : Declared) (label : Label) → IsDeclared principals → IsLabel label →
    IsBottom principals label → IsLabelOver principals label
over_bottom declared_too principals label declared is bottom = record {
  is_label = is;
  forbids = free_over principals label bottom.forbids;
  trusts = record {
    declared = λ p p_in trusts. (bottom.trusts p p_in).0 trusts;
    on_behalf = λ p q p_in q_in trusts acts. (bottom.trusts q q_in).1
        (declared_too principals p q declared ((bottom.trusts p p_in).0 trusts) acts);
  };
}

-- ---- one more policy

same_trust_over : (principals : Declared) (old new : Label) → SameTrust old new → TrustsOver principals old →
    TrustsOver principals new
same_trust_over principals old new same over = record {
  declared = λ p p_in trusts. over.declared p p_in ((same p p_in).0 trusts);
  on_behalf = λ p q p_in q_in trusts acts. (same q q_in).1 (over.on_behalf p q p_in q_in ((same p p_in).0 trusts) acts);
}

-- a reader for whom one who is kept out acts is kept out too
kept_out_too : OutsiderIsAlone → LeadsToDeclared → GoesOn →
    (principals : Declared) (owner : PrincipalId) (readers : List PrincipalId) (r s : ℕ) → IsDeclared principals →
    KeepsOut principals owner readers r → ActsFor principals r s → KeepsOut principals owner readers s
kept_out_too alone declared_too goes_on principals owner readers r s declared kept acts = record {
  is_reader = reads kept.is_reader;
  not_owner = λ other. kept.not_owner (goes_on principals r s owner.0 acts other);
  not_named = λ k d within other. kept.not_named k d within (goes_on principals r s (get_or readers k d).0 acts other);
}
  where
    reads : IsReader principals r → IsReader principals s
    reads (inl within) = inl (declared_too principals r s declared within acts)
    reads (inr is) =
        let P : ℕ → Type 0 = λ n. ActsFor principals n s in
        inr (alone principals s declared (subst P is acts))

pub over_policy : OutsiderIsAlone → LeadsToDeclared → GoesOn →
    (principals : Declared) (owner : PrincipalId) (readers : List PrincipalId) (old new : Label) →
    IsDeclared principals → owner.0 < length principals.names →
    All (λ named. named.0 < length principals.names) readers → IsLabel new →
    AddsPolicy old new principals owner readers → SameTrust old new → IsLabelOver principals old →
    IsLabelOver principals new
over_policy alone declared_too goes_on principals owner readers old new declared owner_in readers_in is adds same over
    = record {
      is_label = is;
      forbids = record {
        owners = λ q r q_in r_in forbids. elim ((adds q r q_in r_in).0 forbids) [
          | inl before ↦ over.forbids.owners q r q_in r_in before
          | inr more ↦ declared_too principals owner.0 q declared owner_in more.0
        ];
        readers = λ q r q_in r_in forbids. elim ((adds q r q_in r_in).0 forbids) [
          | inl before ↦ over.forbids.readers q r q_in r_in before
          | inr more ↦ more.1.is_reader
        ];
        outsider = λ q r q_in r_in forbids. elim ((adds q r q_in r_in).0 forbids) [
          | inl before ↦ (adds q outsider q_in (omega arith)).1 (inl (over.forbids.outsider q r q_in r_in before))
          | inr more ↦ (adds q outsider q_in (omega arith)).1
              (inr (more.0, outsider_kept_out alone principals owner readers declared owner_in readers_in))
        ];
        on_behalf = λ q o r q_in o_in r_in forbids acts. elim ((adds q r q_in r_in).0 forbids) [
          | inl before ↦ (adds o r o_in r_in).1 (inl (over.forbids.on_behalf q o r q_in o_in r_in before acts))
          | inr more ↦ (adds o r o_in r_in).1 (inr (goes_on principals owner.0 q o more.0 acts, more.1))
        ];
        kept_out = λ q r o q_in r_in o_in forbids acts. elim ((adds q r q_in r_in).0 forbids) [
          | inl before ↦ (adds q o q_in o_in).1 (inl (over.forbids.kept_out q r o q_in r_in o_in before acts))
          | inr more ↦ (adds q o q_in o_in).1
              (inr (more.0, kept_out_too alone declared_too goes_on principals owner readers r o declared more.1 acts))
        ];
        by_policy = by_policy;
      };
      trusts = same_trust_over principals old new same over.trusts;
    }
  where
    by_old : (q r : ℕ) → r < 64 → IsForbiddenBy principals old q r → IsForbiddenBy principals new q r
    by_old q r r_in by = record {
      by = by.by;
      within = by.within;
      acts = by.acts;
      not_acted_for = by.not_acted_for;
      forbids = (adds by.by r by.within r_in).1 (inl by.forbids);
    }

    by_policy : (q r : ℕ) → q < 63 → r < 64 → Forbids new q r → IsForbiddenBy principals new q r
    by_policy q r q_in r_in forbids = elim ((adds q r q_in r_in).0 forbids) [
      | inl before ↦ by_old q r r_in (over.forbids.by_policy q r q_in r_in before)
      | inr more ↦ record {
        by = owner.0;
        within = omega (arith, owner_in, declared.names.few);
        acts = more.0;
        not_acted_for = more.1.not_owner;
        forbids = (adds owner.0 r (omega (arith, owner_in, declared.names.few)) r_in).1 (inr (([], refl), more.1));
      }
    ]

-- ---- more trust

same_forbidden_over : (principals : Declared) (old new : Label) → SameForbidden old new → ForbidsOver principals old →
    ForbidsOver principals new
same_forbidden_over principals old new same over = record {
  owners = λ q r q_in r_in forbids. over.owners q r q_in r_in ((same q r q_in r_in).0 forbids);
  readers = λ q r q_in r_in forbids. over.readers q r q_in r_in ((same q r q_in r_in).0 forbids);
  outsider = λ q r q_in r_in forbids. (same q outsider q_in (omega arith)).1
      (over.outsider q r q_in r_in ((same q r q_in r_in).0 forbids));
  on_behalf = λ q o r q_in o_in r_in forbids acts. (same o r o_in r_in).1
      (over.on_behalf q o r q_in o_in r_in ((same q r q_in r_in).0 forbids) acts);
  kept_out = λ q r o q_in r_in o_in forbids acts. (same q o q_in o_in).1
      (over.kept_out q r o q_in r_in o_in ((same q r q_in r_in).0 forbids) acts);
  by_policy = λ q r q_in r_in forbids. by_new q r r_in (over.by_policy q r q_in r_in ((same q r q_in r_in).0 forbids));
}
  where
    by_new : (q r : ℕ) → r < 64 → IsForbiddenBy principals old q r → IsForbiddenBy principals new q r
    by_new q r r_in by = record {
      by = by.by;
      within = by.within;
      acts = by.acts;
      not_acted_for = by.not_acted_for;
      forbids = (same by.by r by.within r_in).1 by.forbids;
    }

-- whoever trusts the new label trusted the old one or is declared
abbrev pub DeclaredGains : Declared → ℕ → ℕ → Type 0
DeclaredGains principals old new = (p : ℕ) → p < 64 → bit_at new p ≡ 1 →
    (bit_at old p ≡ 1) ⊎ (p < length principals.names)

pub declared_gains_more : (principals : Declared) (old word acted next : ℕ) →
    ((p : ℕ) → p < 64 → bit_at acted p ≡ 1 → p < length principals.names) →
    ((k : ℕ) → bit_at next k ≡ max (bit_at word k) (bit_at acted k)) → DeclaredGains principals old word →
    DeclaredGains principals old next
declared_gains_more principals old word acted next declared joined so_far p p_in set =
    elim ((either_bit (bit_at word p) (bit_at acted p) (bit_at next p) (omega arith) (omega arith) (joined p)).0 set) [
      | inl before ↦ so_far p p_in before
      | inr new ↦ inr (declared p p_in new)
    ]

any_goes_on : GoesOn → (principals : Declared) (p q : ℕ) (by : List PrincipalId) → ActsFor principals p q →
    Any (λ member. ActsFor principals member.0 p) by → Any (λ member. ActsFor principals member.0 q) by
any_goes_on goes_on principals p q by acts (k, member, within, read, also) =
    (k, member, within, read, goes_on principals member.0 p q also acts)

pub over_trust : GoesOn → (principals : Declared) (by : List PrincipalId) (old new : Label) → IsLabel new →
    SameForbidden old new → AddsTrust old new principals by → DeclaredGains principals old.trust new.trust →
    IsLabelOver principals old → IsLabelOver principals new
over_trust goes_on principals by old new is same adds declared over = record {
  is_label = is;
  forbids = same_forbidden_over principals old new same over.forbids;
  trusts = record {
    declared = λ p p_in trusts. elim (declared p p_in trusts)
        [ inl before ↦ over.trusts.declared p p_in before | inr within ↦ within ];
    on_behalf = λ p q p_in q_in trusts acts. elim ((adds p p_in).0 trusts) [
      | inl before ↦ (adds q q_in).1 (inl (over.trusts.on_behalf p q p_in q_in before acts))
      | inr some ↦ (adds q q_in).1 (inr (any_goes_on goes_on principals p q by acts some))
    ];
  };
}

-- ---- joins and meets

pub over_join : (principals : Declared) (first second join : Label) → IsLabel join → IsJoin first second join →
    IsLabelOver principals first → IsLabelOver principals second → IsLabelOver principals join
over_join principals first second join is joins one two = record {
  is_label = is;
  forbids = record {
    owners = λ q r q_in r_in forbids. elim ((joins.forbids q r q_in r_in).0 forbids) [
      | inl left ↦ one.forbids.owners q r q_in r_in left
      | inr right ↦ two.forbids.owners q r q_in r_in right
    ];
    readers = λ q r q_in r_in forbids. elim ((joins.forbids q r q_in r_in).0 forbids) [
      | inl left ↦ one.forbids.readers q r q_in r_in left
      | inr right ↦ two.forbids.readers q r q_in r_in right
    ];
    outsider = λ q r q_in r_in forbids. elim ((joins.forbids q r q_in r_in).0 forbids) [
      | inl left ↦ (joins.forbids q outsider q_in (omega arith)).1 (inl (one.forbids.outsider q r q_in r_in left))
      | inr right ↦ (joins.forbids q outsider q_in (omega arith)).1 (inr (two.forbids.outsider q r q_in r_in right))
    ];
    on_behalf = λ q o r q_in o_in r_in forbids acts. elim ((joins.forbids q r q_in r_in).0 forbids) [
      | inl left ↦ (joins.forbids o r o_in r_in).1 (inl (one.forbids.on_behalf q o r q_in o_in r_in left acts))
      | inr right ↦ (joins.forbids o r o_in r_in).1 (inr (two.forbids.on_behalf q o r q_in o_in r_in right acts))
    ];
    kept_out = λ q r o q_in r_in o_in forbids acts. elim ((joins.forbids q r q_in r_in).0 forbids) [
      | inl left ↦ (joins.forbids q o q_in o_in).1 (inl (one.forbids.kept_out q r o q_in r_in o_in left acts))
      | inr right ↦ (joins.forbids q o q_in o_in).1 (inr (two.forbids.kept_out q r o q_in r_in o_in right acts))
    ];
    by_policy = λ q r q_in r_in forbids. elim ((joins.forbids q r q_in r_in).0 forbids) [
      | inl left ↦ of_either q r r_in first (λ by by_in holds. (joins.forbids by r by_in r_in).1 (inl holds))
          (one.forbids.by_policy q r q_in r_in left)
      | inr right ↦ of_either q r r_in second (λ by by_in holds. (joins.forbids by r by_in r_in).1 (inr holds))
          (two.forbids.by_policy q r q_in r_in right)
    ];
  };
  trusts = record {
    declared = λ p p_in trusts. one.trusts.declared p p_in ((joins.trusts p p_in).0 trusts).0;
    on_behalf = λ p q p_in q_in trusts acts.
        let both = (joins.trusts p p_in).0 trusts in
        (joins.trusts q q_in).1 (
          one.trusts.on_behalf p q p_in q_in both.0 acts,
          two.trusts.on_behalf p q p_in q_in both.1 acts,
        );
  };
}
  where
    of_either : (q r : ℕ) → r < 64 → (from : Label) → ((by : ℕ) → by < 63 → Forbids from by r → Forbids join by r) →
        IsForbiddenBy principals from q r → IsForbiddenBy principals join q r
    of_either q r r_in from goes by = record {
      by = by.by;
      within = by.within;
      acts = by.acts;
      not_acted_for = by.not_acted_for;
      forbids = goes by.by by.within by.forbids;
    }

pub over_meet : (principals : Declared) (first second meet : Label) → IsLabel meet →
    IsIntegrityMeet first second meet → IsLabelOver principals first → IsLabelOver principals second →
    IsLabelOver principals meet
over_meet principals first second meet is meets one two = record {
  is_label = is;
  forbids = same_forbidden_over principals first meet meets.forbids one.forbids;
  trusts = record {
    declared = λ p p_in trusts. elim ((meets.trusts p p_in).0 trusts) [
      | inl left ↦ one.trusts.declared p p_in left
      | inr right ↦ two.trusts.declared p p_in right
    ];
    on_behalf = λ p q p_in q_in trusts acts. elim ((meets.trusts p p_in).0 trusts) [
      | inl left ↦ (meets.trusts q q_in).1 (inl (one.trusts.on_behalf p q p_in q_in left acts))
      | inr right ↦ (meets.trusts q q_in).1 (inr (two.trusts.on_behalf p q p_in q_in right acts))
    ];
  };
}
