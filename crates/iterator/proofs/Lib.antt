-- The search for a filled bucket; what is handed out, from the live tables to the call; and the calls that read no bucket.
mod Searching
mod Handing
mod Answering
