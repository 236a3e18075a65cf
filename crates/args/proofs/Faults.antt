-- What a fault says of the kinds by which `clap` fails.
use Rattle.std.proofs.Common.{◌≡◌, ◌⊎◌, inl, inr, subst, refl, sym, Result, Ok, Err, MatchResult, String}
use Rattle.std.specs.declared.alloc.Global.{Global}
use Rattle.args.proofs.Common.{IsAmong, ErrorKinds, ErrorKind, IsFaultOf, IsFaultAs, IsReportedBy}
use Rattle.clap.specs.declared.error.kind.ErrorKind.TheVariants.{OutOfMemory}
use Rattle.args.specs.declared.line.LineFault.{LineFault}
use Rattle.args.specs.declared.line.LineFault.TheVariants.{Memory, Help, Version, Fault}

-- the fault of an error has its kind
pub told_by : {E : Type 0} (kind : ErrorKind) (text : Result (String Global) E) (fault : LineFault) → MatchResult text (λ t. IsFaultAs kind t fault) (λ _. fault ≡ Memory)
    → IsReportedBy kind fault
told_by kind (Err e) fault is = subst (IsReportedBy kind) (sym is) tt
told_by kind (Ok t) fault (inl memory) = subst (IsReportedBy kind) (sym memory.1) tt
told_by kind (Ok t) fault (inr (inl help)) = subst (IsReportedBy kind) (sym help.1) help.0
told_by kind (Ok t) fault (inr (inr (inl version))) = subst (IsReportedBy kind) (sym version.1) version.0
told_by kind (Ok t) fault (inr (inr (inr other))) = subst (IsReportedBy kind) (sym other.3) (other.0, other.1, other.2)

-- a fault that has one of the kinds
pub is_fault : (kinds : ErrorKinds) (kind : ErrorKind) (fault : LineFault) → (kind ≡ OutOfMemory) ⊎ IsAmong kind kinds → IsReportedBy kind fault → IsFaultOf kinds fault
is_fault kinds kind Memory h declarations = tt
is_fault kinds kind (Help text) (inl memory) declarations = cc
is_fault kinds kind (Help text) (inr among) declarations = subst (λ (k : ErrorKind). IsAmong k kinds) declarations among
is_fault kinds kind (Version text) (inl memory) declarations = cc
is_fault kinds kind (Version text) (inr among) declarations = subst (λ (k : ErrorKind). IsAmong k kinds) declarations among
is_fault kinds kind (Fault text) (inl memory) declarations = absurd (declarations.0 memory)
is_fault kinds kind (Fault text) (inr among) declarations = (kind, among, declarations.1, declarations.2)

-- a fault that says out of memory
pub is_memory : (kind : ErrorKind) (fault : LineFault) → kind ≡ OutOfMemory → IsReportedBy kind fault → fault ≡ Memory
is_memory kind Memory memory declarations = refl
is_memory kind (Help text) memory declarations = cc
is_memory kind (Version text) memory declarations = cc
is_memory kind (Fault text) memory declarations = absurd (declarations.0 memory)
