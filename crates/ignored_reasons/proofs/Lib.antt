mod AskedParts
mod CheckParts
mod DecidedParts
mod FirstFalse
mod RidingParts
mod SeenIgnored
